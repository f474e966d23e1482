use Rattle.naga_proc.proofs.Closing.TakenToLemmas.{TakenTo}
use Rattle.naga_proc.proofs.terminator.one_walk.+take_back.Given as goal

-- returns are taken away from the cases before `i`, and those from `i` on are unchanged
abbrev pub invariant-take_back_in_cases-loop-i : goal.invariant-take_back_in_cases-loop-i
invariant-take_back_in_cases-loop-i l =
    goal.unvisited-take_back_in_cases-loop-i l × TakenTo l.initial.left l.initial.cases.items l.cases.items l.i l.left
