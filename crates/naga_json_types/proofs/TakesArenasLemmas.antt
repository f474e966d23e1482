-- Arenas that are taken value by value.
use Rattle.std.proofs.Common.{◌≡◌, ◌≢◌, ◌≤◌, ◌+◌, ◌∙◌, ap, refl, arith, ℕ, List, [], ◌∷◌, suc, ◌++◌, Option, Some, None, Ok, Err, cond, length}
use Rattle.std.proofs.lemmas.List.{length-append, length-map}
use Rattle.std.specs.Prelude.{nat_le}
use Rattle.std.proofs.lemmas.Bool.Decides.{nat_tests}
use Rattle.json.specs.Json.{Json, after_end_array}
use Rattle.json.specs.Token.{Token}
use Rattle.naga_arena.specs.Arena.{Appends}
use Rattle.naga_arena.specs.Limits.{max_len}
use Rattle.naga_arena.specs.Span.{undefined}
use Rattle.naga_arena.specs.declared.arena.ArenaError.TheVariants.{Full}
use Rattle.naga_arena.specs.declared.span.Span.{Span}
use Rattle.naga_json.specs.Arenas.{arena_in, arena_value, without_span}
use Rattle.naga_json.specs.Lists.{each_of, item_count, items_of}
use Rattle.naga_json.specs.Numbers.{◌>>=◌}
use Rattle.naga_json_tokens.specs.Takes.{Takes}
use Rattle.naga_json_tokens.proofs.TakesItems.{TakesItems}
use Rattle.naga_json_tokens.proofs.TakesListsLemmas.{takes_list_as, takes_more_viewed}
use Rattle.naga_json_tokens.proofs.TakesMapLemmas.{takes_map}

module _ {A : Type 0} (m : Json → Option A) where
  one_more : (o : Option A) (rest : Option (List A)) (vs : List A) (count : ℕ) → (o >>= λ first. rest >>= λ others. Some (first ∷ others)) ≡ Some vs → ((others : List A) → rest ≡ Some others → count ≡ length others)
      → suc count ≡ length vs
  one_more None rest vs count is counts = absurd (cc)
  one_more (Some first) None vs count is counts = absurd (cc)
  one_more (Some first) (Some others) vs count is counts =
      let same : first ∷ others ≡ vs = cc in
      let counted = counts others refl in
      omega (arith, ap length same)

  -- as many items as meanings
  each_of-count : (js : List Json) (vs : List A) → each_of m (items_of js) ≡ Some vs → item_count (items_of js) ≡ length vs
  each_of-count [] vs is = let same : [] ≡ vs = cc in omega (arith, ap length same)
  each_of-count (j ∷ js) vs is = let counted = one_more (m j) (each_of m (items_of js)) vs (item_count (items_of js)) is (λ others each. each_of-count js others each) in omega (arith)

short_enough : {X : Type 0} (count : ℕ) (x : X) → count ≤ max_len → cond (nat_le count max_len) (Some x) None ≡ Some x
short_enough count x short = grind (arith, nat_tests)

-- an arena that has one more value, where the error for a full one did not come
pub short-inserted : {X : Type 0} (old new : List (X × Span)) (value : X) (span : Span) (handle : ℕ) → new ≡ old ++ (value, span) ∷ []
    → (length old ≡ max_len → Ok handle ≡ Err Full) → length old ≤ max_len → length new ≤ max_len
short-inserted old new value span handle grown full short =
    let more : length new ≡ length old + 1 = ap length grown ∙ length-append old ((value, span) ∷ []) in
    let not_full : length old ≢ max_len = λ is. let same : Ok handle ≡ Err Full = full is in cc in
    omega (arith, more, not_full, short)

-- an arena to which a value was appended
pub short-appended : {X : Type 0} (old new : List (X × Span)) (value : X) (span : Span) (handle : ℕ) → Appends old value span (Ok handle) new → length old ≤ max_len → length new ≤ max_len
short-appended old new value span handle appends short = short-inserted old new value span handle appends.appended appends.full.1 short

-- one more value, with an undefined span
pub takes_more_values : {X A : Type 0} (view : X → A) (m : Json → Option A) (arena grown : List (X × Span)) (x : X) (old middle new : List Token)
    → TakesItems (without_span m) (arena_value view arena) old middle → Takes m (view x) middle new → grown ≡ arena ++ (x, undefined) ∷ []
    → TakesItems (without_span m) (arena_value view grown) old new
takes_more_values view m arena grown x old middle new all one is =
    takes_more_viewed (λ entry. (view entry.0, entry.1)) (without_span m) arena grown (x, undefined) old middle new all
    (takes_map m (view x) (without_span m) (view x, undefined) middle new one (λ j means. rw means refl))
    is

-- an arena, with its beginning and its end
pub takes_arena : {X A : Type 0} (view : X → A) (m : Json → Option A) (arena : List (X × Span)) (old first middle new : List Token)
    → old ≡ Token.begin_array ∷ first → TakesItems (without_span m) (arena_value view arena) first middle → after_end_array middle ≡ Some new → length arena ≤ max_len
    → Takes (arena_in m) (arena_value view arena) old new
takes_arena {A = A} view m arena old first middle new begun all ended short =
    let counted = each_of-count (without_span m) all.jsons (arena_value view arena) all.means in
    let as_long = length-map {B = A × Span} arena (λ entry. (view entry.0, entry.1)) in
    let few : item_count (items_of all.jsons) ≤ max_len = omega (arith, counted, as_long) in
    takes_list_as (without_span m) (arena_value view arena) (arena_in m) (arena_value view arena) old first middle new begun all ended
    (ap (λ o. o >>= each_of (without_span m)) (short_enough (item_count (items_of all.jsons)) (items_of all.jsons) few) ∙ all.means)
