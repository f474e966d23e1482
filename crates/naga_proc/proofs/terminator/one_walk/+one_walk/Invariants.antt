use Rattle.naga_proc.proofs.Closing.VisitedToLemmas.{VisitedTo}
use Rattle.naga_proc.proofs.terminator.one_walk.+one_walk.Given as goal

-- the walk leads from the cases before `i` to those that are there now, and those from `i` on are unchanged
abbrev pub invariant-walk_cases-loop-i : goal.invariant-walk_cases-loop-i
invariant-walk_cases-loop-i l =
    goal.unvisited-walk_cases-loop-i l × VisitedTo l.fn.rule l.initial.walk l.initial.cases.items l.cases.items l.i l.walk
