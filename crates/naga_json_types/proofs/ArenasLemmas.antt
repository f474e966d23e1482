-- Lists that are not longer than an arena can be.
use Rattle.std.proofs.Common.{◌≡◌, ◌∙◌, sym, refl, ℕ, ◌<◌, ◌≤◌, Option, Some, None, cond, arith}
use Rattle.std.specs.Prelude.{nat_le}
use Rattle.std.proofs.lemmas.Bool.Decides.{nat_tests}
use Rattle.json.specs.Json.{Json, Items}
use Rattle.json.specs.Find.{as_array}
use Rattle.naga_arena.specs.Limits.{max_len}
use Rattle.naga_json.specs.Lists.{item_count}
use Rattle.naga_arena.specs.Span.{undefined}
use Rattle.naga_json.specs.Arenas.{arena_items_in, without_span}
use Rattle.naga_json.proofs.BindLemmas.{at_some}

short : {A : Type 0} (count : ℕ) (x : A) → count ≤ max_len → cond (nat_le count max_len) (Some x) None ≡ Some x
short count x h = grind (arith, nat_tests)

long : {A : Type 0} (count : ℕ) (x : A) → max_len < count → cond (nat_le count max_len) (Some x) None ≡ None
long count x h = grind (arith, nat_tests)

pub arena_items_in-short : (j : Json) (js : Items) → Some js ≡ as_array j → item_count js ≤ max_len → Some js ≡ arena_items_in j
arena_items_in-short j js found h = sym (at_some _ js _ (sym found) ∙ short _ js h)

pub arena_items_in-long : (j : Json) (js : Items) → Some js ≡ as_array j → max_len < item_count js → None ≡ arena_items_in j
arena_items_in-long j js found h = sym (at_some _ js _ (sym found) ∙ long _ js h)

pub without_span-Some : {A : Type 0} (meaning : Json → Option A) (j : Json) (value : A) → Some value ≡ meaning j → Some (value, undefined) ≡ without_span meaning j
without_span-Some meaning j value e = rw (sym e) refl

pub without_span-None : {A : Type 0} (meaning : Json → Option A) (j : Json) → None ≡ meaning j → None ≡ without_span meaning j
without_span-None meaning j e = rw (sym e) refl
