-- What is appended are the tokens of the JSON.
use Rattle.std.proofs.Common.{◌≡◌, ◌∙◌, ap, refl, ℕ, List, [], ◌∷◌, ◌++◌, append_assoc}
use Rattle.json.specs.Json.{Json, null, boolean, number, string, array, object, Items, no_items, item, Members, no_members, member}
use Rattle.json.specs.Token.{Token}
use Rattle.json.specs.Tree.{json_tokens, items_tokens, members_tokens}
use Rattle.naga_json.specs.Objects.{members_of}
use Rattle.naga_json_write.specs.Appends.{append_json, append_items, append_members, append_fields}

mutual
  -- `append_json` appends the tokens of the JSON
  pub append_json_tokens : (front : List Token) (j : Json) → append_json front j ≡ front ++ json_tokens j
  append_json_tokens front null = refl
  append_json_tokens front (boolean b) = refl
  append_json_tokens front (number text) = refl
  append_json_tokens front (string text) = refl
  append_json_tokens front (array js) = append_items_tokens (front ++ Token.begin_array ∷ []) js ∙ append_assoc front (Token.begin_array ∷ []) (items_tokens js)
  append_json_tokens front (object ms) = append_members_tokens (front ++ Token.begin_object ∷ []) ms ∙ append_assoc front (Token.begin_object ∷ []) (members_tokens ms)

  append_items_tokens : (front : List Token) (js : Items) → append_items front js ≡ front ++ items_tokens js
  append_items_tokens front no_items = refl
  append_items_tokens front (item j js) =
      append_items_tokens (append_json front j) js ∙ ap (λ ts. ts ++ items_tokens js) (append_json_tokens front j) ∙ append_assoc front (json_tokens j) (items_tokens js)

  append_members_tokens : (front : List Token) (ms : Members) → append_members front ms ≡ front ++ members_tokens ms
  append_members_tokens front no_members = refl
  append_members_tokens front (member name j ms) =
      append_members_tokens (append_json (front ++ Token.key name ∷ []) j) ms
      ∙ ap (λ ts. ts ++ members_tokens ms) (append_json_tokens (front ++ Token.key name ∷ []) j)
      ∙ append_assoc (front ++ Token.key name ∷ []) (json_tokens j) (members_tokens ms)
      ∙ append_assoc front (Token.key name ∷ []) (json_tokens j ++ members_tokens ms)

-- the members of an object with these fields are its fields, and after them its end
pub append_object : (front : List Token) (fields : List (List ℕ × Json)) → append_members front (members_of fields) ≡ append_fields front fields ++ Token.end_object ∷ []
append_object front [] = refl
append_object front (field ∷ fields) = append_object (append_json (front ++ Token.key field.0 ∷ []) field.1) fields
