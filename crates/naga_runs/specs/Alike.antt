-- Blocks that differ only in blocks inside them, and these in what no run depends on.
use Rattle.std.specs.Prelude.{◌≡◌, ℕ, Bool, Option, is_some}
use Rattle.naga_arena.specs.declared.span.Span.{Span}
use Rattle.naga_kinds.specs.declared.switch.SwitchValue.{SwitchValue}
use Rattle.naga_ir.specs.Tree.{Tree, push, Node, nested, branch, switch, loop, Cases, no_cases, case}
use Rattle.naga_runs.specs.RunsFit.{RunsFit}

mutual
  -- The second block is the first, in which blocks, at any depth, are replaced by others whose runs fit. Spans may
  -- differ, and so may the handles of conditions and selectors, since no run depends on them.
  pub data Alike : Tree → Tree → Type 0 where
    replaced : {old new : Tree} → RunsFit old new → Alike old new
    in_push : {front front' : Tree} {last last' : Node} {span span' : Span} →
        Alike front front' → AlikeStatements last last' → Alike (push front last span) (push front' last' span')

  -- the same for two statements
  pub data AlikeStatements : Node → Node → Type 0 where
    unchanged : {statement : Node} → AlikeStatements statement statement
    in_nested : {inner inner' : Tree} → Alike inner inner' → AlikeStatements (nested inner) (nested inner')
    in_branch : {condition condition' : ℕ} {accept accept' reject reject' : Tree} →
        Alike accept accept' → Alike reject reject' →
        AlikeStatements (branch condition accept reject) (branch condition' accept' reject')
    in_switch : {selector selector' : ℕ} {cases cases' : Cases} →
        AlikeCases cases cases' → AlikeStatements (switch selector cases) (switch selector' cases')
    in_loop : {body body' continuing continuing' : Tree} {break_if break_if' : Option ℕ} →
        Alike body body' → Alike continuing continuing' → is_some break_if ≡ is_some break_if' →
        AlikeStatements (loop body continuing break_if) (loop body' continuing' break_if')

  -- the same for the cases of two switches, which have the same values and fall through alike
  pub data AlikeCases : Cases → Cases → Type 0 where
    no_more : AlikeCases no_cases no_cases
    one_more : {value : SwitchValue} {body body' : Tree} {falls_through : Bool} {others others' : Cases} →
        Alike body body' → AlikeCases others others' →
        AlikeCases (case value body falls_through others) (case value body' falls_through others')
