use Rattle.std.proofs.Common.{take}
use Rattle.std.specs.Prelude.{All}
use Rattle.std.specs.List.{enumerate_from}
use Rattle.naga_compact.specs.Operands.{FollowsItsOperands}
use Rattle.naga_compact.proofs.precede.operands_precede.Given as goal

abbrev pub invariant-loop-i : goal.invariant-loop-i
invariant-loop-i l = All FollowsItsOperands (enumerate_from 0 (take l.i l.expressions))
