-- Objects that are taken field by field: what their fields hold are the parts of a nested tuple.
use Rattle.std.specs.Prelude.{◌≡◌, ℕ, List, [], ◌∷◌, Option, Some}
use Rattle.json.specs.Json.{Json, Members, member}
use Rattle.json.specs.Token.{Token}
use Rattle.naga_json_tokens.specs.Takes.{members_before}

-- The tokens `old` are those of the members of an object and of its end, and then the tokens `new`. The members hold some
-- JSONs that mean the parts.
pub record TakesParts {T J : Type 0} (members : J → Members) (Mean : J → T → Type 0) (parts : T) (old new : List Token) : Type 0 where
  pub jsons : J
  pub tokens : old ≡ members_before (members jsons) new
  pub means : Mean jsons parts

-- the members of these names that hold these JSONs: the first one, and the others
abbrev pub members_with : {J : Type 0} → (List (List ℕ) → J → Members) → List (List ℕ) → Json × J → Members
members_with others [] jsons = member [] jsons.0 (others [] jsons.1)
members_with others (name ∷ names) jsons = member name jsons.0 (others names jsons.1)

-- these JSONs mean these parts: the first one does, as `view` sees it, and the others do
abbrev pub MeanWith : {A V T J : Type 0} → (A → V) → (Json → Option V) → (J → T → Type 0) → Json × J → A × T → Type 0
MeanWith view meaning Mean jsons parts = (meaning jsons.0 ≡ Some (view parts.0)) × Mean jsons.1 parts.1
