use Rattle.std.proofs.Common.{◌≡◌, ◌<◌, ℕ, None}
use Rattle.naga_bounds.specs.Fits.{misfit}
use Rattle.naga_bounds.specs.Modules.{typed_in}
use Rattle.naga_bounds.proofs.check.check_function.Given as goal

-- the accesses before this expression fit
abbrev pub invariant-expressions : goal.invariant-expressions
invariant-expressions l = (other : ℕ) → other < l.index → misfit (typed_in l.«module» l.function) other ≡ None
