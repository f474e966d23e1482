use Rattle.std.proofs.Common.{◌≡◌, ℕ, drop}
use Rattle.naga_bounds.specs.Fits.{first_misfit}
use Rattle.naga_bounds.specs.Reach.{Typed, positions_of}
use Rattle.naga_bounds.proofs.accesses.misfit_of_components.Given as goal

-- the components before this one are there
abbrev pub invariant-components : goal.invariant-components
invariant-components l =
    (code : Typed) (base : ℕ) →
    first_misfit code l.length base (positions_of l.components)
    ≡ first_misfit code l.length base (positions_of (drop l.component-index l.components))
