-- Blocks that differ only in parts that do the same on a machine.
use Rattle.std.specs.Prelude.{◌≡◌, ℕ, Bool, Option}
use Rattle.naga_arena.specs.declared.span.Span.{Span}
use Rattle.naga_kinds.specs.declared.switch.SwitchValue.{SwitchValue}
use Rattle.naga_ir.specs.Tree.{Tree, push, Node, nested, branch, switch, loop, Cases, no_cases, case}
use Rattle.naga_meaning.specs.Machine.{Machine, does, node_does}

module _ {State : Type 0} (machine : Machine State) where
  mutual
    -- The second block is the first, in which blocks and statements, at any depth, are replaced by others that do the
    -- same.
    pub data Alike : Tree → Tree → Type 0 where
      same_block : {old new : Tree} → ((turns : ℕ) (state : State) → does machine turns new state ≡ does machine turns old state) → Alike old new
      in_push : {front front' : Tree} {last last' : Node} {span span' : Span} →
          Alike front front' → AlikeStatements last last' → Alike (push front last span) (push front' last' span')

    -- the same for two statements
    pub data AlikeStatements : Node → Node → Type 0 where
      same_statement : {old new : Node} → ((turns : ℕ) (state : State) → node_does machine turns new state ≡ node_does machine turns old state) →
          AlikeStatements old new
      in_nested : {inner inner' : Tree} → Alike inner inner' → AlikeStatements (nested inner) (nested inner')
      in_branch : {condition : ℕ} {accept accept' reject reject' : Tree} → Alike accept accept' → Alike reject reject' →
          AlikeStatements (branch condition accept reject) (branch condition accept' reject')
      in_switch : {selector : ℕ} {cases cases' : Cases} → AlikeCases cases cases' → AlikeStatements (switch selector cases) (switch selector cases')
      in_loop : {body body' continuing continuing' : Tree} {break_if : Option ℕ} → Alike body body' → Alike continuing continuing' →
          AlikeStatements (loop body continuing break_if) (loop body' continuing' break_if)

    -- the same for the cases of two switches, which have the same values and fall through alike
    pub data AlikeCases : Cases → Cases → Type 0 where
      no_more : AlikeCases no_cases no_cases
      one_more : {value : SwitchValue} {body body' : Tree} {falls_through : Bool} {others others' : Cases} →
          Alike body body' → AlikeCases others others' → AlikeCases (case value body falls_through others) (case value body' falls_through others')
