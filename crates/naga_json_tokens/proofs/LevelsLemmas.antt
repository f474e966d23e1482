-- What a reader that counts levels returns: the tokens of a JSON that is nested no deeper than it reads.
use Rattle.std.proofs.Common.{◌≡◌, ◌≢◌, ◌≤◌, ◌<◌, ◌-◌, ◌∙◌, sym, ap, refl, arith, ℕ, suc, List, [], ◌∷◌, Bool, true, false, cond}
use Rattle.std.specs.Prelude.{nat_lt}
use Rattle.std.proofs.lemmas.Bool.Decides.{nat_tests}
use Rattle.json.specs.Json.{Json, null, boolean, number, string, array, object, Items, no_items, item, Members, no_members, member}
use Rattle.json.specs.Token.{Token}
use Rattle.json.specs.Tree.{depth, items_depth, members_depth}
use Rattle.naga_json.specs.declared.nesting.TheConstants.{MAX_NESTING}
use Rattle.naga_json_tokens.specs.Levels.{levels_after, may_follow, shallow}
use Rattle.naga_json_tokens.specs.Takes.{json_before, items_before, members_before}

-- ---- from what the reader returns to the text

-- The first token is `t`, and the reader returns `rest` for those after it.
record Next (levels : ℕ) (ts : List Token) (t : Token) (rest : List Token) : Type 0 where
  left : List Token
  tokens : ts ≡ t ∷ left
  returned : rest ≡ shallow (levels_after levels t) left
  may : may_follow levels t ≡ true

next_by : (levels : ℕ) (x : Token) (ts : List Token) (t : Token) (rest : List Token) (b : Bool) → may_follow levels x ≡ b → t ≢ Token.bad → cond b (x ∷ shallow (levels_after levels x) ts) (Token.bad ∷ shallow levels ts) ≡ t ∷ rest
    → Next levels (x ∷ ts) t rest
next_by levels x ts t rest true may good is =
    let same : x ≡ t = cc in
    let after : shallow (levels_after levels x) ts ≡ rest = cc in
    record {
      left = ts;
      tokens = ap (λ y. y ∷ ts) same;
      returned = sym after ∙ ap (λ y. shallow (levels_after levels y) ts) same;
      may = ap (may_follow levels) (sym same) ∙ may;
    }
next_by levels x ts t rest false may good is = let same : t ≡ Token.bad = cc in absurd (good same)

next_of : (levels : ℕ) (ts : List Token) (t : Token) (rest : List Token) → t ≢ Token.bad → shallow levels ts ≡ t ∷ rest → Next levels ts t rest
next_of levels [] t rest good is = absurd (cc)
next_of levels (x ∷ ts) t rest good is = next_by levels x ts t rest (may_follow levels x) refl good is

begun : (levels : ℕ) → nat_lt levels MAX_NESTING ≡ true → levels < MAX_NESTING
begun levels is = grind (arith, nat_tests)

begins : (levels : ℕ) → levels < MAX_NESTING → nat_lt levels MAX_NESTING ≡ true
begins levels few = grind (arith, nat_tests)

one_less : (levels : ℕ) → suc levels - 1 ≡ levels
one_less levels = omega arith

-- The tokens are those that `before` puts in front of `left`, for which the reader returns `rest`. They are nested no
-- deeper than `room`.
pub record Spells (before : List Token → List Token) (nested room levels : ℕ) (ts rest : List Token) : Type 0 where
  pub left : List Token
  pub tokens : ts ≡ before left
  pub returned : rest ≡ shallow levels left
  pub few : nested ≤ room

scalar : (levels : ℕ) (t : Token) (ts rest : List Token) → t ≢ Token.bad → levels_after levels t ≡ levels → shallow levels ts ≡ t ∷ rest → Spells (λ left. t ∷ left) 0 (MAX_NESTING - levels) levels ts rest
scalar levels t ts rest good stays is =
    let first = next_of levels ts t rest good is in
    record { left = first.left; tokens = first.tokens; returned = first.returned ∙ ap (λ n. shallow n first.left) stays; few = omega arith }

named : (ts o1 o2 rest : List Token) (name : List ℕ) (j : Json) (ms : Members) → ts ≡ Token.key name ∷ o1 → o1 ≡ json_before j o2 → o2 ≡ members_before ms rest → ts ≡ members_before (member name j ms) rest
named ts o1 o2 rest name j ms e1 e2 e3 = e1 ∙ ap (λ ts. Token.key name ∷ ts) (e2 ∙ ap (json_before j) e3)

mutual
  pub json_spelled : (j : Json) (levels : ℕ) (ts rest : List Token) → shallow levels ts ≡ json_before j rest → Spells (json_before j) (depth j) (MAX_NESTING - levels) levels ts rest
  json_spelled null levels ts rest is = scalar levels Token.null ts rest (λ e. cc) refl is
  json_spelled (boolean b) levels ts rest is = scalar levels (Token.boolean b) ts rest (λ e. cc) refl is
  json_spelled (number text) levels ts rest is = scalar levels (Token.number text) ts rest (λ e. cc) refl is
  json_spelled (string text) levels ts rest is = scalar levels (Token.string text) ts rest (λ e. cc) refl is
  json_spelled (array js) levels ts rest is =
      let first = next_of levels ts Token.begin_array (items_before js rest) (λ e. cc) is in
      let few = begun levels first.may in
      let all = items_spelled js levels first.left rest (sym first.returned) in
      record { left = all.left; tokens = first.tokens ∙ ap (λ ts. Token.begin_array ∷ ts) all.tokens; returned = all.returned; few = omega (arith, few, all.few) }
  json_spelled (object ms) levels ts rest is =
      let first = next_of levels ts Token.begin_object (members_before ms rest) (λ e. cc) is in
      let few = begun levels first.may in
      let all = members_spelled ms levels first.left rest (sym first.returned) in
      record { left = all.left; tokens = first.tokens ∙ ap (λ ts. Token.begin_object ∷ ts) all.tokens; returned = all.returned; few = omega (arith, few, all.few) }

  items_spelled : (js : Items) (levels : ℕ) (ts rest : List Token) → shallow (suc levels) ts ≡ items_before js rest → Spells (items_before js) (items_depth js) (MAX_NESTING - suc levels) levels ts rest
  items_spelled no_items levels ts rest is =
      let last = next_of (suc levels) ts Token.end_array rest (λ e. cc) is in
      record { left = last.left; tokens = last.tokens; returned = last.returned ∙ ap (λ n. shallow n last.left) (one_less levels); few = omega arith }
  items_spelled (item j js) levels ts rest is =
      let first = json_spelled j (suc levels) ts (items_before js rest) is in
      let others = items_spelled js levels first.left rest (sym first.returned) in
      record { left = others.left; tokens = first.tokens ∙ ap (json_before j) others.tokens; returned = others.returned; few = omega (arith, first.few, others.few) }

  members_spelled : (ms : Members) (levels : ℕ) (ts rest : List Token) → shallow (suc levels) ts ≡ members_before ms rest → Spells (members_before ms) (members_depth ms) (MAX_NESTING - suc levels) levels ts rest
  members_spelled no_members levels ts rest is =
      let last = next_of (suc levels) ts Token.end_object rest (λ e. cc) is in
      record { left = last.left; tokens = last.tokens; returned = last.returned ∙ ap (λ n. shallow n last.left) (one_less levels); few = omega arith }
  members_spelled (member name j ms) levels ts rest is =
      let key = next_of (suc levels) ts (Token.key name) (json_before j (members_before ms rest)) (λ e. cc) is in
      let first = json_spelled j (suc levels) key.left (members_before ms rest) (sym key.returned) in
      let others = members_spelled ms levels first.left rest (sym first.returned) in
      record {
        left = others.left;
        tokens = named ts key.left first.left others.left name j ms key.tokens first.tokens others.tokens;
        returned = others.returned;
        few = omega (arith, first.few, others.few);
      }

none_by : (b : Bool) (x y : Token) (xs ys : List Token) → cond b (x ∷ xs) (y ∷ ys) ≢ []
none_by true x y xs ys is = cc
none_by false x y xs ys is = cc

-- where the reader returns no token, the text has none
pub none_left : (levels : ℕ) (ts : List Token) → shallow levels ts ≡ [] → ts ≡ []
none_left levels [] is = refl
none_left levels (t ∷ ts) is = absurd (none_by (may_follow levels t) t Token.bad (shallow (levels_after levels t) ts) (shallow levels ts) is)

-- ---- from the text to what the reader returns

mutual
  pub json_shallow : (j : Json) (levels : ℕ) (rest : List Token) → depth j ≤ MAX_NESTING - levels → shallow levels (json_before j rest) ≡ json_before j (shallow levels rest)
  json_shallow null levels rest few = refl
  json_shallow (boolean b) levels rest few = refl
  json_shallow (number text) levels rest few = refl
  json_shallow (string text) levels rest few = refl
  json_shallow (array js) levels rest few =
      ap (λ b. cond b (Token.begin_array ∷ shallow (suc levels) (items_before js rest)) (Token.bad ∷ shallow levels (items_before js rest))) (begins levels (omega arith))
      ∙ ap (λ ts. Token.begin_array ∷ ts) (items_shallow js levels rest (omega arith))
  json_shallow (object ms) levels rest few =
      ap (λ b. cond b (Token.begin_object ∷ shallow (suc levels) (members_before ms rest)) (Token.bad ∷ shallow levels (members_before ms rest))) (begins levels (omega arith))
      ∙ ap (λ ts. Token.begin_object ∷ ts) (members_shallow ms levels rest (omega arith))

  items_shallow : (js : Items) (levels : ℕ) (rest : List Token) → items_depth js ≤ MAX_NESTING - suc levels → shallow (suc levels) (items_before js rest) ≡ items_before js (shallow levels rest)
  items_shallow no_items levels rest few = ap (λ n. Token.end_array ∷ shallow n rest) (one_less levels)
  items_shallow (item j js) levels rest few =
      json_shallow j (suc levels) (items_before js rest) (omega arith) ∙ ap (json_before j) (items_shallow js levels rest (omega arith))

  members_shallow : (ms : Members) (levels : ℕ) (rest : List Token) → members_depth ms ≤ MAX_NESTING - suc levels → shallow (suc levels) (members_before ms rest) ≡ members_before ms (shallow levels rest)
  members_shallow no_members levels rest few = ap (λ n. Token.end_object ∷ shallow n rest) (one_less levels)
  members_shallow (member name j ms) levels rest few =
      ap (λ ts. Token.key name ∷ ts)
      (json_shallow j (suc levels) (members_before ms rest) (omega arith) ∙ ap (json_before j) (members_shallow ms levels rest (omega arith)))
