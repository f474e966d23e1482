-- What a name determines among the variants of a kind.
use Rattle.std.specs.Prelude.{◌≡◌, ℕ, List, [], ◌∷◌, cond, Option, Some, None}
use Rattle.std.specs.Str.{bytes_eq}

-- the first of these variants with this name
abbrev pub named : {A : Type 0} → (A → List ℕ) → List A → List ℕ → Option A
named name_of [] name = None
named name_of (kind ∷ kinds) name = cond (bytes_eq (name_of kind) name) (Some kind) (named name_of kinds name)

-- the variant is the first with its name. If this is so for each variant of a kind, the names are distinct, and no
-- variant is missing
abbrev pub IsFirstOfItsName : {A : Type 0} → (A → List ℕ) → List A → A → Type 0
IsFirstOfItsName name_of kinds kind = named name_of kinds (name_of kind) ≡ Some kind
