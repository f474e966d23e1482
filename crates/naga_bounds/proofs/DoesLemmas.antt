-- What each statement keeps, a body keeps.
use Rattle.std.proofs.Common.{ℕ, zero, suc, Option, None, Some}
use Rattle.naga_ir.specs.Tree.{Tree, empty, push, Node, plain, nested, branch, switch, loop, jump, Cases, no_cases, case}
use Rattle.naga_ir.specs.declared.statement.Statement.{Statement}
use Rattle.naga_runs.specs.Runs.{entered, values}
use Rattle.naga_runs.specs.declared.run.Ending.{Ending}
use Rattle.naga_meaning.specs.Machine.{Machine, Done, Way, goes_on, stays, leaves, breaks_if, by_way, cases_do, choose, does, in_block, in_case, in_loop, in_turn, node_does, then_by, turn_of, turns_of}

module _ {S : Type 0} (machine : Machine S) (Kept : S → Type 0) (performs : (what : Statement) (s : S) → Kept s → Kept (machine.perform what s)) where
  -- each step from a state that is in `Kept` leaves one that is
  abbrev Keeps : (S → Done S) → Type 0
  Keeps step = (s : S) → Kept s → Kept (step s).state

  by_way-keeps : (way : Way) (first : Done S) (next : S → Done S) → Kept first.state → Keeps next → Kept (by_way way first next).state
  by_way-keeps goes_on first next h more = more first.state h
  by_way-keeps stays first next h more = h
  by_way-keeps (leaves slipped) first next h more = h

  then_by-keeps : (way : Ending → Way) (first : Done S) (next : S → Done S) → Kept first.state → Keeps next → Kept (then_by way first next).state
  then_by-keeps way first next h more = by_way-keeps (way first.ending) first next h more

  choose-keeps : (answer : ℕ) (on_no on_yes : S → Done S) → Keeps on_no → Keeps on_yes → Keeps (choose answer on_no on_yes)
  choose-keeps zero on_no on_yes at_no at_yes = at_no
  choose-keeps (suc answer) on_no on_yes at_no at_yes = at_yes

  breaks_if-keeps : (condition : Option ℕ) → Keeps (breaks_if machine condition)
  breaks_if-keeps None s h = h
  breaks_if-keeps (Some condition) s h = h

  turns_of-keeps : (n : ℕ) (turn : S → Done S) → Keeps turn → Keeps (turns_of n turn)
  turns_of-keeps zero turn more s h = h
  turns_of-keeps (suc n) turn more s h = then_by-keeps in_loop (turn s) (turns_of n turn) (more s h) (turns_of-keeps n turn more)

  turn_of-keeps : (body continuing : S → Done S) (condition : Option ℕ) → Keeps body → Keeps continuing → Keeps (turn_of machine body continuing condition)
  turn_of-keeps body continuing condition b c s h =
      then_by-keeps in_turn (body s) (λ middle. then_by in_turn (continuing middle) (breaks_if machine condition)) (b s h)
      (λ middle k. then_by-keeps in_turn (continuing middle) (breaks_if machine condition) (c middle k) (breaks_if-keeps condition))

  mutual
    pub does-keeps : (n : ℕ) (block : Tree) → Keeps (does machine n block)
    does-keeps n empty s h = h
    does-keeps n (push front last span) s h =
        then_by-keeps in_block (does machine n front s) (node_does machine n last) (does-keeps n front s h) (node-keeps n last)

    node-keeps : (n : ℕ) (node : Node) → Keeps (node_does machine n node)
    node-keeps n (plain what) s h = performs what s h
    node-keeps n (nested inner) s h = does-keeps n inner s h
    node-keeps n (branch condition accept reject) s h =
        choose-keeps (machine.answer condition s) (does machine n reject) (does machine n accept) (does-keeps n reject) (does-keeps n accept) s h
    node-keeps n (switch selector cases) s h = cases-keep n cases (entered (values cases) (machine.choice selector (values cases) s)) s h
    node-keeps n (loop body continuing break_if) s h =
        turns_of-keeps n (turn_of machine (does machine n body) (does machine n continuing) break_if)
        (turn_of-keeps (does machine n body) (does machine n continuing) break_if (does-keeps n body) (does-keeps n continuing)) s h
    node-keeps n (jump to) s h = h

    cases-keep : (n : ℕ) (cases : Cases) (position : ℕ) → Keeps (cases_do machine n cases position)
    cases-keep n no_cases position s h = h
    cases-keep n (case value body through others) zero s h =
        then_by-keeps (in_case through) (does machine n body s) (cases_do machine n others 0) (does-keeps n body s h) (cases-keep n others 0)
    cases-keep n (case value body through others) (suc position) s h = cases-keep n others position s h
