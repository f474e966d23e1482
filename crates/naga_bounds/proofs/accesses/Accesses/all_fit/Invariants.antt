use Rattle.std.proofs.Common.{◌≡◌, ◌<◌, ℕ, None}
use Rattle.naga_bounds.specs.Fits.{misfit}
use Rattle.naga_bounds.proofs.accesses.Accesses.all_fit.Given as goal

-- the accesses before this expression fit
abbrev pub invariant-expressions : goal.invariant-expressions
invariant-expressions l = (other : ℕ) → other < l.index → misfit l.self other ≡ None
