-- The indices of a vector's components.
use Rattle.std.specs.Prelude.{ℕ}
use Rattle.naga_kinds.specs.declared.operator.SwizzleComponent.{SwizzleComponent}
use Rattle.naga_kinds.specs.declared.operator.SwizzleComponent.TheVariants.{X, Y, Z, W}

-- the index of a component
abbrev pub place_of : SwizzleComponent → ℕ
place_of X = 0
place_of Y = 1
place_of Z = 2
place_of W = 3
