-- What a writer appends.
use Rattle.std.specs.Prelude.{◌≡◌, ℕ, List, [], ◌∷◌, ◌++◌, OnOk, Result}
use Rattle.json.specs.Json.{Json, null, boolean, number, string, array, object, Items, no_items, item, Members, no_members, member}
use Rattle.json.specs.Token.{Token}
use Rattle.json.specs.Written.{Written}

-- The tokens `front`, and after them those of a JSON, or of the items or members of one and its end.
abbrev mutual
  pub append_json : List Token → Json → List Token
  append_json front null = front ++ Token.null ∷ []
  append_json front (boolean b) = front ++ Token.boolean b ∷ []
  append_json front (number text) = front ++ Token.number text ∷ []
  append_json front (string text) = front ++ Token.string text ∷ []
  append_json front (array js) = append_items (front ++ Token.begin_array ∷ []) js
  append_json front (object ms) = append_members (front ++ Token.begin_object ∷ []) ms

  pub append_items : List Token → Items → List Token
  append_items front no_items = front ++ Token.end_array ∷ []
  append_items front (item j js) = append_items (append_json front j) js

  pub append_members : List Token → Members → List Token
  append_members front no_members = front ++ Token.end_object ∷ []
  append_members front (member name j ms) = append_members (append_json (front ++ Token.key name ∷ []) j) ms

-- on success, the tokens of this JSON were appended
abbrev pub Appends : {E : Type 0} → Result (Unit {0}) E → Written → Written → Json → Type 0
Appends result old new j = OnOk result (new.tokens ≡ append_json old.tokens j)

-- the tokens `front`, and after them those of some fields of an object
abbrev pub append_fields : List Token → List (List ℕ × Json) → List Token
append_fields front [] = front
append_fields front (field ∷ fields) = append_fields (append_json (front ++ Token.key field.0 ∷ []) field.1) fields

-- the tokens `front`, and after them the beginning of a variant that holds an object
abbrev pub begun : List Token → List ℕ → List Token
begun front name = ((front ++ Token.begin_object ∷ []) ++ Token.key name ∷ []) ++ Token.begin_object ∷ []

-- the tokens `front`, and after them the end of a variant that holds an object
abbrev pub ended : List Token → List Token
ended front = (front ++ Token.end_object ∷ []) ++ Token.end_object ∷ []
