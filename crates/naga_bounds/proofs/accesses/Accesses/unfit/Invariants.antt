use Rattle.std.proofs.Common.{◌≡◌, take}
use Rattle.naga_bounds.specs.Unfit.{unfit_before}
use Rattle.naga_bounds.proofs.accesses.Accesses.unfit.Given as goal

-- the accesses before this expression are listed
abbrev pub invariant-expressions : goal.invariant-expressions
invariant-expressions l = l.found.items ≡ take l.limit (unfit_before l.self l.index)
