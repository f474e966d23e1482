-- Paths along a partial function, as from a node of a tree to its root.
use Rattle.std.specs.Prelude.{◌≡◌, ℕ, ◌<◌, List, [], ◌∷◌, Option, Some, None}

-- The path from a start along `next`. It is empty if there is no start. Otherwise it is the start, followed by the path
-- from the next value.
pub data Path {A : Type 0} (next : A → Option A) : Option A → List A → Type 0 where
  ends : Path next None []
  passes : {here : A} {later : List A} → Path next (next here) later → Path next (Some here) (here ∷ later)

-- each number is above the next one
abbrev pub Descends : (ℕ → Option ℕ) → Type 0
Descends next = (here later : ℕ) → next here ≡ Some later → later < here
