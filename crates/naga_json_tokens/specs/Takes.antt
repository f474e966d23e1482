-- What is taken from a reader of tokens.
use Rattle.std.specs.Prelude.{◌≡◌, ℕ, List, ◌∷◌, Option, Some}
use Rattle.json.specs.Json.{Json, null, boolean, number, string, array, object, Items, no_items, item, Members, no_members, member}
use Rattle.json.specs.Token.{Token}

-- The tokens of a JSON, or of the items or members of one and its end, and then the tokens `rest`.
abbrev mutual
  pub json_before : Json → List Token → List Token
  json_before null rest = Token.null ∷ rest
  json_before (boolean b) rest = Token.boolean b ∷ rest
  json_before (number text) rest = Token.number text ∷ rest
  json_before (string text) rest = Token.string text ∷ rest
  json_before (array js) rest = Token.begin_array ∷ items_before js rest
  json_before (object ms) rest = Token.begin_object ∷ members_before ms rest

  pub items_before : Items → List Token → List Token
  items_before no_items rest = Token.end_array ∷ rest
  items_before (item j js) rest = json_before j (items_before js rest)

  pub members_before : Members → List Token → List Token
  members_before no_members rest = Token.end_object ∷ rest
  members_before (member name j ms) rest = Token.key name ∷ json_before j (members_before ms rest)

-- The tokens `old` are those of a JSON that means the value, and then the tokens `new`.
pub record Takes {A : Type 0} (meaning : Json → Option A) (value : A) (old new : List Token) : Type 0 where
  pub json : Json
  pub tokens : old ≡ json_before json new
  pub means : meaning json ≡ Some value

-- The tokens `old` are a member of an object, which has this name and a value that means `value`, and then the tokens
-- `new`.
pub record TakesField {A : Type 0} (name : List ℕ) (meaning : Json → Option A) (value : A) (old new : List Token) : Type 0 where
  pub json : Json
  pub tokens : old ≡ Token.key name ∷ json_before json new
  pub means : meaning json ≡ Some value
