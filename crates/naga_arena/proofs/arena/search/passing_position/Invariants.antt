use Rattle.std.proofs.Common.{take, false}
use Rattle.std.specs.Prelude.{All}
use Rattle.std.specs.Fn.{FnReturnsAt}
use Rattle.naga_arena.proofs.arena.search.passing_position.Given as goal

abbrev pub invariant-loop-i : goal.invariant-loop-i
invariant-loop-i g l = All (λ x. FnReturnsAt g.F.Fn l.test x false) (take l.i l.values)
