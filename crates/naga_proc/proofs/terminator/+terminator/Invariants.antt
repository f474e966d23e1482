use Rattle.std.proofs.Common.{ℕ, ◌<◌, get_or}
use Rattle.naga_ir.specs.declared.statement.SwitchCase.{SwitchCase}
use Rattle.naga_proc.proofs.Closing.ClosedToLemmas.{CaseClosed}
use Rattle.naga_proc.proofs.terminator.+terminator.Given as goal

-- the cases before `i` are closed, and those from `i` on are unchanged
abbrev pub invariant-close_cases-loop-i : goal.invariant-close_cases-loop-i
invariant-close_cases-loop-i l =
    goal.unvisited-close_cases-loop-i l × ((k : ℕ) (d : SwitchCase) → k < l.i → CaseClosed l.fn.rule (get_or l.initial.cases.items k d) (get_or l.cases.items k d))
