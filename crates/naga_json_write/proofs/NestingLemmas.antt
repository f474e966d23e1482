-- The levels of arrays and objects after the tokens of a JSON.
use Rattle.std.proofs.Common.{◌≡◌, ◌≤◌, ◌<◌, ◌+◌, ◌-◌, ◌∙◌, ap, refl, arith, ℕ, suc, List, [], ◌∷◌, ◌++◌, Some, None, true, false, inl, inr}
use Rattle.std.proofs.lemmas.Bool.{cases_lt}
use Rattle.std.specs.Prelude.{is_some}
use Rattle.std.proofs.lemmas.Bool.Decides.{nat_tests}
use Rattle.std.proofs.lemmas.List.Sums.{fold-append}
use Rattle.std.specs.List.{fold}
use Rattle.json.specs.Json.{Json, null, boolean, number, string, array, object, Items, no_items, item, Members, no_members, member}
use Rattle.json.specs.Token.{Token}
use Rattle.json.specs.Tree.{depth, items_depth, members_depth, json_tokens, items_tokens, members_tokens}
use Rattle.naga_json.specs.declared.nesting.TheConstants.{MAX_NESTING}
use Rattle.naga_json_write.specs.Nesting.{one_less, one_more, levels_after, levels_at}

-- one more token
pub levels_push : (ts : List Token) (t : Token) → levels_after (ts ++ t ∷ []) ≡ levels_at (levels_after ts) t
levels_push ts t = fold-append levels_at (Some 0) ts (t ∷ [])

-- ---- a JSON that is nested deep enough brings too many levels, and another one leaves them as they are

-- `None` stays
pub too_many : (ts : List Token) → fold levels_at None ts ≡ None
too_many [] = refl
too_many (Token.begin_array ∷ ts) = too_many ts
too_many (Token.begin_object ∷ ts) = too_many ts
too_many (Token.end_array ∷ ts) = too_many ts
too_many (Token.end_object ∷ ts) = too_many ts
too_many (other ∷ ts) = too_many ts

fewer : {P : Type 0} (n m : ℕ) → (n < m → P) → (m ≤ n → P) → P
fewer n m less more = elim (cases_lt n m) [
  | inl below ↦ less below
  | inr above ↦ more above
]

begins : (levels : ℕ) → levels < MAX_NESTING → one_more (Some levels) ≡ Some (suc levels)
begins levels few = grind (arith, nat_tests)

begins_no_more : (levels : ℕ) → MAX_NESTING ≤ levels → one_more (Some levels) ≡ None
begins_no_more levels many = grind (arith, nat_tests)

ends : (levels : ℕ) → one_less (Some (suc levels)) ≡ Some levels
ends levels = let same : suc levels - 1 ≡ levels = omega arith in ap Some same

mutual
  shallow_json : (levels : ℕ) (j : Json) → levels + depth j ≤ MAX_NESTING → fold levels_at (Some levels) (json_tokens j) ≡ Some levels
  shallow_json levels null few = refl
  shallow_json levels (boolean b) few = refl
  shallow_json levels (number text) few = refl
  shallow_json levels (string text) few = refl
  shallow_json levels (array js) few = ap (λ o. fold levels_at o (items_tokens js)) (begins levels (omega arith)) ∙ shallow_items levels js (omega arith)
  shallow_json levels (object ms) few = ap (λ o. fold levels_at o (members_tokens ms)) (begins levels (omega arith)) ∙ shallow_members levels ms (omega arith)

  shallow_items : (levels : ℕ) (js : Items) → suc levels + items_depth js ≤ MAX_NESTING → fold levels_at (Some (suc levels)) (items_tokens js) ≡ Some levels
  shallow_items levels no_items few = ends levels
  shallow_items levels (item j js) few =
      fold-append levels_at (Some (suc levels)) (json_tokens j) (items_tokens js)
      ∙ ap (λ o. fold levels_at o (items_tokens js)) (shallow_json (suc levels) j (omega arith))
      ∙ shallow_items levels js (omega arith)

  shallow_members : (levels : ℕ) (ms : Members) → suc levels + members_depth ms ≤ MAX_NESTING → fold levels_at (Some (suc levels)) (members_tokens ms) ≡ Some levels
  shallow_members levels no_members few = ends levels
  shallow_members levels (member name j ms) few =
      fold-append levels_at (Some (suc levels)) (json_tokens j) (members_tokens ms)
      ∙ ap (λ o. fold levels_at o (members_tokens ms)) (shallow_json (suc levels) j (omega arith))
      ∙ shallow_members levels ms (omega arith)

mutual
  deep_json : (levels : ℕ) (j : Json) → levels ≤ MAX_NESTING → MAX_NESTING < levels + depth j → fold levels_at (Some levels) (json_tokens j) ≡ None
  deep_json levels null few deep = absurd (omega arith)
  deep_json levels (boolean b) few deep = absurd (omega arith)
  deep_json levels (number text) few deep = absurd (omega arith)
  deep_json levels (string text) few deep = absurd (omega arith)
  deep_json levels (array js) few deep =
      fewer levels MAX_NESTING
      (λ less. ap (λ o. fold levels_at o (items_tokens js)) (begins levels less) ∙ deep_items levels js (omega arith) (omega arith))
      (λ many. ap (λ o. fold levels_at o (items_tokens js)) (begins_no_more levels many) ∙ too_many (items_tokens js))
  deep_json levels (object ms) few deep =
      fewer levels MAX_NESTING
      (λ less. ap (λ o. fold levels_at o (members_tokens ms)) (begins levels less) ∙ deep_members levels ms (omega arith) (omega arith))
      (λ many. ap (λ o. fold levels_at o (members_tokens ms)) (begins_no_more levels many) ∙ too_many (members_tokens ms))

  deep_items : (levels : ℕ) (js : Items) → suc levels ≤ MAX_NESTING → MAX_NESTING < suc levels + items_depth js → fold levels_at (Some (suc levels)) (items_tokens js) ≡ None
  deep_items levels no_items few deep = absurd (omega arith)
  deep_items levels (item j js) few deep =
      fold-append levels_at (Some (suc levels)) (json_tokens j) (items_tokens js)
      ∙ fewer MAX_NESTING (suc levels + depth j)
      (λ first. ap (λ o. fold levels_at o (items_tokens js)) (deep_json (suc levels) j few first) ∙ too_many (items_tokens js))
      (λ shallow. ap (λ o. fold levels_at o (items_tokens js)) (shallow_json (suc levels) j shallow) ∙ deep_items levels js few (omega arith))

  deep_members : (levels : ℕ) (ms : Members) → suc levels ≤ MAX_NESTING → MAX_NESTING < suc levels + members_depth ms → fold levels_at (Some (suc levels)) (members_tokens ms) ≡ None
  deep_members levels no_members few deep = absurd (omega arith)
  deep_members levels (member name j ms) few deep =
      fold-append levels_at (Some (suc levels)) (json_tokens j) (members_tokens ms)
      ∙ fewer MAX_NESTING (suc levels + depth j)
      (λ first. ap (λ o. fold levels_at o (members_tokens ms)) (deep_json (suc levels) j few first) ∙ too_many (members_tokens ms))
      (λ shallow. ap (λ o. fold levels_at o (members_tokens ms)) (shallow_json (suc levels) j shallow) ∙ deep_members levels ms few (omega arith))

-- a JSON whose tokens never have more than MAX_NESTING levels
pub depth-shallow : (j : Json) (ts : List Token) → ts ≡ json_tokens j → is_some (levels_after ts) ≡ true → depth j ≤ MAX_NESTING
depth-shallow j ts are some =
    fewer MAX_NESTING (depth j)
    (λ deep. let none : levels_after ts ≡ None = ap levels_after are ∙ deep_json 0 j (omega arith) (omega (arith, deep)) in let both : is_some (levels_after ts) ≡ false = ap is_some none in absurd (cc))
    (λ shallow. shallow)

-- a JSON whose tokens have more than MAX_NESTING levels somewhere
pub depth-deep : (j : Json) (ts : List Token) → ts ≡ json_tokens j → is_some (levels_after ts) ≡ false → MAX_NESTING < depth j
depth-deep j ts are none =
    fewer MAX_NESTING (depth j)
    (λ deep. deep)
    (λ shallow. let some : levels_after ts ≡ Some 0 = ap levels_after are ∙ shallow_json 0 j (omega (arith, shallow)) in let both : is_some (levels_after ts) ≡ true = ap is_some some in absurd (cc))
