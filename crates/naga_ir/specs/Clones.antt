-- Clones of blocks: the same statements with the same spans, also in nested blocks. Only spare capacity may differ.
use Rattle.std.specs.Prelude.{◌≡◌, ℕ, Bool, Option}
use Rattle.naga_arena.specs.declared.span.Span.{Span}
use Rattle.naga_kinds.specs.declared.switch.SwitchValue.{SwitchValue}
use Rattle.naga_ir.specs.declared.block.Block.{Block}
use Rattle.naga_ir.specs.declared.statement.Statement.{Statement}
use Rattle.naga_ir.specs.declared.statement.Statement.TheVariants.{Call}
use Rattle.naga_ir.specs.declared.statement.SwitchCase.{SwitchCase}
use Rattle.naga_ir.specs.Tree.{Tree, empty, push, Node, plain, nested, branch, switch, loop, jump, Jump, Cases, no_cases, case}
use Rattle.naga_ir.specs.View.{node_of, tree_of}

-- the clone of a plain statement is equal to it, except that the list of a call's arguments may have other spare
-- capacity
abbrev pub IsPlainClone : Statement → Statement → Type 0
IsPlainClone (Call function arguments result) (Call function_again copies result_again) =
    (function_again ≡ function) × (copies.items ≡ arguments.items) × (result_again ≡ result)
IsPlainClone statement clone = clone ≡ statement

mutual
  -- the second tree has the statements of the first, each cloned and with its span
  pub data IsTreeClone : Tree → Tree → Type 0 where
    of_empty : IsTreeClone empty empty
    of_push : {front copy : Tree} {last again : Node} {span : Span} → IsTreeClone front copy → IsNodeClone last again →
        IsTreeClone (push front last span) (push copy again span)

  -- the second statement is the first with clones of its blocks
  pub data IsNodeClone : Node → Node → Type 0 where
    of_plain : {what again : Statement} → IsPlainClone what again → IsNodeClone (plain what) (plain again)
    of_nested : {inner copy : Tree} → IsTreeClone inner copy → IsNodeClone (nested inner) (nested copy)
    of_branch : {condition : ℕ} {accept reject accept_copy reject_copy : Tree} →
        IsTreeClone accept accept_copy → IsTreeClone reject reject_copy →
        IsNodeClone (branch condition accept reject) (branch condition accept_copy reject_copy)
    of_switch : {selector : ℕ} {cases copies : Cases} → IsCasesClone cases copies →
        IsNodeClone (switch selector cases) (switch selector copies)
    of_loop : {body continuing body_copy continuing_copy : Tree} {break_if : Option ℕ} →
        IsTreeClone body body_copy → IsTreeClone continuing continuing_copy →
        IsNodeClone (loop body continuing break_if) (loop body_copy continuing_copy break_if)
    of_jump : {to : Jump} → IsNodeClone (jump to) (jump to)

  -- the second cases are the first with clones of their bodies
  pub data IsCasesClone : Cases → Cases → Type 0 where
    of_no_cases : IsCasesClone no_cases no_cases
    of_case : {value : SwitchValue} {body copy : Tree} {falls_through : Bool} {others copies : Cases} →
        IsTreeClone body copy → IsCasesClone others copies →
        IsCasesClone (case value body falls_through others) (case value copy falls_through copies)

-- the block has the statements of another one, each cloned and with its span
abbrev pub IsBlockClone : Block → Block → Type 0
IsBlockClone block clone = IsTreeClone (tree_of block) (tree_of clone)

-- the statement is another one with clones of its blocks
abbrev pub IsStatementClone : Statement → Statement → Type 0
IsStatementClone statement clone = IsNodeClone (node_of statement) (node_of clone)

-- the case has the value of another one and a clone of its body, and falls through exactly if that one does
abbrev pub IsCaseClone : SwitchCase → SwitchCase → Type 0
IsCaseClone original clone =
    (clone.value ≡ original.value)
    × IsBlockClone original.body clone.body
    × (clone.fall_through ≡ original.fall_through)
