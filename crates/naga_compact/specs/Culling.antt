-- Blocks without the statements that, by the form of the block alone, control never reaches.
--
-- The blocks inside a statement are culled first, so a `Break` that is removed is no exit of its switch any more. What
-- diverges is a test of the form, so a statement behind a loop without a way out stays.
use Rattle.std.specs.Prelude.{◌≡◌, ⊤, ℕ, Bool, false, Option, if◌then◌else◌}
use Rattle.naga_arena.specs.declared.span.Span.{Span}
use Rattle.naga_kinds.specs.declared.switch.SwitchValue.{SwitchValue}
use Rattle.naga_ir.specs.Tree.{Tree, empty, push, Node, nested, branch, switch, loop, Cases, no_cases, case}
use Rattle.naga_runs.specs.Diverges.{diverges}

-- the block with one more statement, unless control never reaches that statement
abbrev pub push_reached : Tree → Node → Span → Tree
push_reached front last span = if diverges front then front else push front last span

abbrev mutual
  -- the block up to and including its first statement that diverges, and the same of each block inside it
  pub culled : Tree → Tree
  culled empty = empty
  culled (push front last span) = push_reached (culled front) (culled_node last) span

  -- the statement, with the blocks inside it culled
  pub culled_node : Node → Node
  culled_node (nested inner) = nested (culled inner)
  culled_node (branch condition accept reject) = branch condition (culled accept) (culled reject)
  culled_node (switch selector cases) = switch selector (culled_cases cases)
  culled_node (loop body continuing break_if) = loop (culled body) (culled continuing) break_if
  culled_node node = node

  -- the cases, with their bodies culled
  pub culled_cases : Cases → Cases
  culled_cases no_cases = no_cases
  culled_cases (case value body falls_through others) = case value (culled body) falls_through (culled_cases others)

abbrev mutual
  -- no statement follows one that diverges, in the block and in each block inside it
  pub IsCulled : Tree → Type 0
  IsCulled empty = ⊤
  IsCulled (push front last span) = IsCulled front × (diverges front ≡ false) × IsCulledInside last

  -- the same of the blocks inside a statement
  pub IsCulledInside : Node → Type 0
  IsCulledInside (nested inner) = IsCulled inner
  IsCulledInside (branch condition accept reject) = IsCulled accept × IsCulled reject
  IsCulledInside (switch selector cases) = CasesAreCulled cases
  IsCulledInside (loop body continuing break_if) = IsCulled body × IsCulled continuing
  IsCulledInside node = ⊤

  -- the same of the bodies of cases
  pub CasesAreCulled : Cases → Type 0
  CasesAreCulled no_cases = ⊤
  CasesAreCulled (case value body falls_through others) = IsCulled body × CasesAreCulled others

mutual
  -- The first block consists of the first statements of the second one, with their spans. The blocks inside them are
  -- prefixes, too.
  pub data IsPrefix : Tree → Tree → Type 0 where
    whole : {block old : Tree} → HasAll block old → IsPrefix block old
    cut : {block front : Tree} {last : Node} {span : Span} → IsPrefix block front → IsPrefix block (push front last span)

  -- the first block consists of all the statements of the second one, up to blocks inside them, which are prefixes
  pub data HasAll : Tree → Tree → Type 0 where
    none : HasAll empty empty
    one_more : {front front' : Tree} {last last' : Node} {span : Span} →
        HasAll front front' → IsPrefixInside last last' → HasAll (push front last span) (push front' last' span)

  -- the blocks inside the first statement are prefixes of those inside the second one; all else is the same
  pub data IsPrefixInside : Node → Node → Type 0 where
    unchanged : {node : Node} → IsPrefixInside node node
    in_nested : {inner inner' : Tree} → IsPrefix inner inner' → IsPrefixInside (nested inner) (nested inner')
    in_branch : {condition : ℕ} {accept accept' reject reject' : Tree} → IsPrefix accept accept' → IsPrefix reject reject' →
        IsPrefixInside (branch condition accept reject) (branch condition accept' reject')
    in_switch : {selector : ℕ} {cases cases' : Cases} → ArePrefixes cases cases' →
        IsPrefixInside (switch selector cases) (switch selector cases')
    in_loop : {body body' continuing continuing' : Tree} {break_if : Option ℕ} →
        IsPrefix body body' → IsPrefix continuing continuing' →
        IsPrefixInside (loop body continuing break_if) (loop body' continuing' break_if)

  -- the same for the bodies of cases
  pub data ArePrefixes : Cases → Cases → Type 0 where
    no_more : ArePrefixes no_cases no_cases
    one_case : {value : SwitchValue} {body body' : Tree} {falls_through : Bool} {others others' : Cases} →
        IsPrefix body body' → ArePrefixes others others' →
        ArePrefixes (case value body falls_through others) (case value body' falls_through others')
