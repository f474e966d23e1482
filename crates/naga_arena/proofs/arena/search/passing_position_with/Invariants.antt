use Rattle.std.proofs.Common.{take, false}
use Rattle.std.specs.Prelude.{All}
use Rattle.std.specs.Fn.{FnReturnsAtPair}
use Rattle.naga_arena.proofs.arena.search.passing_position_with.Given as goal

abbrev pub invariant-loop-i : goal.invariant-loop-i
invariant-loop-i g l = All (λ x. FnReturnsAtPair g.F.Fn l.test x l.other false) (take l.i l.values)
