-- Equality of values, as `==` decides it.
use Rattle.std.specs.Prelude.{◌≡◌, ◌↔◌, Bool, IsTrue}

-- the test `equal` returns `true` for this pair if and only if its two values are identical
abbrev pub DecidesEquality : {A : Type 0} → (equal : A → A → Bool) → (pair : A × A) → Type 0
DecidesEquality equal pair = IsTrue (equal pair.0 pair.1) ↔ (pair.0 ≡ pair.1)
