use Rattle.std.proofs.Common.{take}
use Rattle.std.specs.Prelude.{All}
use Rattle.std.specs.List.{enumerate_from}
use Rattle.naga_ir.specs.Chain.{FollowsItsParts}
use Rattle.naga_ir.proofs.chains.chains_precede.Given as goal

abbrev pub invariant-loop-i : goal.invariant-loop-i
invariant-loop-i l = All FollowsItsParts (enumerate_from 0 (take l.i l.expressions))
