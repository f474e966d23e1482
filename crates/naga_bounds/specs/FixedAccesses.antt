-- The set of the accesses by constant indices below fixed lengths.
use Rattle.std.specs.Prelude.{◌≡◌, ℕ}
use Rattle.std.specs.FinSet as set
use Rattle.naga_sets.specs.HandleSet.{BoundedSet}
use Rattle.naga_bounds.specs.Reach.{Typed, is_fixed_access}

-- the set has the accesses by constant indices below fixed lengths
abbrev pub AreFixedAccesses : Typed → BoundedSet → Type 0
AreFixedAccesses code found = (handle : ℕ) → set.contains found.members handle ≡ is_fixed_access code handle
