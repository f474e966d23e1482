-- What is taken is what the grammar of JSON reads.
use Rattle.std.proofs.Common.{◌≡◌, ◌≤◌, ◌-◌, ◌∙◌, sym, ap, refl, ℕ, List, [], ◌∷◌, ◌++◌, append_assoc, Option, Some, option_and_then, arith}
use Rattle.json.specs.Json.{Json, null, boolean, number, string, array, object, Items, no_items, item, Members, no_members, member, if_last, value}
use Rattle.json.specs.Json.{value as value_of_tokens}
use Rattle.json.specs.Lex.{tokens}
use Rattle.json.specs.Token.{Token}
use Rattle.json.specs.Tree.{depth, json_tokens, items_tokens, members_tokens}
use Rattle.json.proofs.Printed.Trees.{value-json_tokens}
use Rattle.json.proofs.Unique.Spelling.{value-json_tokens_back}
use Rattle.naga_json.specs.Text.{document}
use Rattle.naga_json.specs.declared.nesting.TheConstants.{MAX_NESTING}
use Rattle.naga_json_tokens.specs.Levels.{shallow}
use Rattle.naga_json_tokens.specs.Takes.{Takes, json_before, items_before, members_before}
use Rattle.naga_json_tokens.proofs.LevelsLemmas.{json_shallow, json_spelled, none_left}

mutual
  pub json_before-tokens : (j : Json) (rest : List Token) → json_before j rest ≡ json_tokens j ++ rest
  json_before-tokens null rest = refl
  json_before-tokens (boolean b) rest = refl
  json_before-tokens (number text) rest = refl
  json_before-tokens (string text) rest = refl
  json_before-tokens (array js) rest = ap (λ ts. Token.begin_array ∷ ts) (items_before-tokens js rest)
  json_before-tokens (object ms) rest = ap (λ ts. Token.begin_object ∷ ts) (members_before-tokens ms rest)

  items_before-tokens : (js : Items) (rest : List Token) → items_before js rest ≡ items_tokens js ++ rest
  items_before-tokens no_items rest = refl
  items_before-tokens (item j js) rest =
      json_before-tokens j (items_before js rest)
      ∙ ap (λ ts. json_tokens j ++ ts) (items_before-tokens js rest)
      ∙ sym (append_assoc (json_tokens j) (items_tokens js) rest)

  members_before-tokens : (ms : Members) (rest : List Token) → members_before ms rest ≡ members_tokens ms ++ rest
  members_before-tokens no_members rest = refl
  members_before-tokens (member name j ms) rest =
      ap (λ ts. Token.key name ∷ ts)
      (json_before-tokens j (members_before ms rest)
      ∙ ap (λ ts. json_tokens j ++ ts) (members_before-tokens ms rest)
      ∙ sym (append_assoc (json_tokens j) (members_tokens ms) rest))

-- the grammar reads the JSON, and the tokens after it are left
pub value-json_before : (j : Json) (levels : ℕ) (rest : List Token) → depth j ≤ levels → value levels (json_before j rest) ≡ Some (j, rest)
value-json_before j levels rest shallow = ap (value levels) (json_before-tokens j rest) ∙ value-json_tokens j levels rest shallow

-- what the grammar reads as a JSON are the tokens of that JSON
pub json_before_value : (levels : ℕ) (old new : List Token) (j : Json) → value levels old ≡ Some (j, new) → old ≡ json_before j new
json_before_value levels old new j is = value-json_tokens_back levels old new j is ∙ sym (json_before-tokens j new)

-- a JSON that the grammar reads is what the reader that counts levels returns
pub shallow_value : (levels : ℕ) (old new : List Token) (j : Json) → value (MAX_NESTING - levels) old ≡ Some (j, new) → depth j ≤ MAX_NESTING - levels → shallow levels old ≡ json_before j (shallow levels new)
shallow_value levels old new j is few = ap (shallow levels) (json_before_value (MAX_NESTING - levels) old new j is) ∙ json_shallow j levels new few

-- a text that is taken whole means the value
pub takes_document : {A : Type 0} (meaning : Json → Option A) (value : A) (text : List ℕ) (old new : List Token) → old ≡ shallow 0 (tokens text) → Takes meaning value old new → new ≡ []
    → option_and_then meaning (document text) ≡ Some value
takes_document meaning value text old new begun taken ended =
    let spelled = json_spelled taken.json 0 (tokens text) new (sym begun ∙ taken.tokens) in
    let none = none_left 0 spelled.left (sym spelled.returned ∙ ended) in
    let read = value-json_before taken.json MAX_NESTING spelled.left (omega (arith, spelled.few)) in
    let at : value_of_tokens MAX_NESTING (tokens text) ≡ Some (taken.json, []) =
    ap (value_of_tokens MAX_NESTING) spelled.tokens ∙ read ∙ ap (λ ts. Some (taken.json, ts)) none in
    ap (λ o. option_and_then meaning (option_and_then (λ p. if_last p.0 p.1) o)) at ∙ taken.means
