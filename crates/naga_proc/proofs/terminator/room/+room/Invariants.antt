use Rattle.std.proofs.Common.{◌≡◌}
use Rattle.naga_ir.specs.View.{cases_of}
use Rattle.naga_proc.proofs.Closing.ReservedToLemmas.{RoomBefore}
use Rattle.naga_proc.proofs.terminator.room.+room.Given as goal

-- the cases before `i` have spare capacity, those from `i` on are unchanged, and all of them have the same trees as
-- before
abbrev pub invariant-reserve_in_cases-loop-i : goal.invariant-reserve_in_cases-loop-i
invariant-reserve_in_cases-loop-i l =
    goal.unvisited-reserve_in_cases-loop-i l × (cases_of l.cases.items ≡ cases_of l.initial.cases.items) × RoomBefore l.fn.rule l.cases.items l.i
