-- The law of arenas.
use Rattle.std.proofs.Common.{◌≡◌, ◌∙◌, ◌≤◌, ℕ, suc, add-one, ap, List, [], ◌∷◌, map, length, Bool, true, false, cond, Option, Some, None, IfSome, All, nat_le, refl, arith}
use Rattle.std.proofs.lemmas.Bool.Decides.{nat_tests}
use Rattle.std.proofs.lemmas.List.Elements.{All-cons, All-head, All-tail}
use Rattle.json.specs.Json.{Json, Items, item, no_items}
use Rattle.json.specs.Find.{as_array}
use Rattle.json.specs.Tree.{ItemsHaveNumbers}
use Rattle.naga_arena.specs.Arena.{values}
use Rattle.naga_arena.specs.Limits.{max_len}
use Rattle.naga_arena.specs.Span.{undefined}
use Rattle.naga_arena.specs.declared.span.Span.{Span}
use Rattle.naga_json.specs.Arenas.{arena_in, arena_codec, arena_items_in, ArenaFits, unspanned, without_span}
use Rattle.naga_json.specs.Codec.{Codec}
use Rattle.naga_json.specs.Lawful.{Gives, Lawful}
use Rattle.naga_json.specs.Lists.{each_of, item_count, items_of}
use Rattle.naga_json.proofs.GivesLemmas.{then, then_any}

pub item_count-items_of : (js : List Json) → item_count (items_of js) ≡ length js
item_count-items_of [] = refl
item_count-items_of (j ∷ js) = add-one (item_count (items_of js)) ∙ ap suc (item_count-items_of js)

length-values : {A : Type 0} (encode : A → Json) (arena : List (A × Span)) → length (map encode (values arena)) ≡ length arena
length-values encode [] = refl
length-values encode (entry ∷ arena) = ap suc (length-values encode arena)

pub short_items : (items : Items) → item_count items ≤ max_len → cond (nat_le (item_count items) max_len) (Some items) None ≡ Some items
short_items items short = grind (arith, nat_tests)

gives-arena_items : (j : Json) → Gives (λ items. item_count items ≤ max_len) (arena_items_in j)
gives-arena_items j = then_any _ (as_array j) _ λ items. record { holds = at items (nat_le (item_count items) max_len) refl }
  where
    at : (items : Items) (b : Bool) → nat_le (item_count items) max_len ≡ b → IfSome (cond b (Some items) None) (λ found. item_count found ≤ max_len)
    at items true is = grind (arith, nat_tests)
    at items false is = tt

module _ {A : Type 0} (P : A → Type 0) (meaning : Json → Option A) (one : (j : Json) → Gives P (meaning j)) where
  -- what is known of an arena that is read from this number of items
  record IsOf (count : ℕ) (arena : List (A × Span)) : Type 0 where
    size : length arena ≡ count
    each : All (λ (entry : A × Span). P entry.0) arena
    spans : unspanned arena ≡ arena

  gives-without_span : (j : Json) → Gives (λ entry. P entry.0 × (entry.1 ≡ undefined)) (without_span meaning j)
  gives-without_span j = then P _ (meaning j) _ (one j) λ value fits. record { holds = (fits, refl) }

  gives-elements : (js : Items) → Gives (IsOf (item_count js)) (each_of (without_span meaning) js)
  gives-elements no_items = record { holds = record { size = refl; each = λ k d within. absurd (omega arith); spans = refl } }
  gives-elements (item j js) =
      then (λ (entry : A × Span). P entry.0 × (entry.1 ≡ undefined)) _ (without_span meaning j) _ (gives-without_span j) λ first fits.
      then (IsOf (item_count js)) _ (each_of (without_span meaning) js) _ (gives-elements js) λ rest known.
      record {
        holds = record {
          size = omega (arith, known.size);
          each = All-cons (λ (entry : A × Span). P entry.0) first rest fits.0 known.each;
          spans = rw (known.spans, fits.1) refl;
        };
      }

  fits-short : (count : ℕ) → count ≤ max_len → (o : Option (List (A × Span))) → Gives (IsOf count) o → Gives (ArenaFits P) o
  fits-short count short None known = record { holds = tt }
  fits-short count short (Some arena) known = record { holds = record { size = omega (arith, short, known.holds.size); each = known.holds.each; spans = known.holds.spans } }

  -- an arena that is read
  pub gives-arena : (j : Json) → Gives (ArenaFits P) (arena_in meaning j)
  gives-arena j =
      then (λ items. item_count items ≤ max_len) (ArenaFits P) (arena_items_in j) (each_of (without_span meaning)) (gives-arena_items j)
      (λ items short. fits-short (item_count items) short (each_of (without_span meaning) items) (gives-elements items))

module _ {A : Type 0} (codec : Codec A) (law : Lawful codec) where
  abbrev Each : List (A × Span) → Type 0
  Each arena = All (λ entry. codec.Fits entry.0) arena

  each_of-values : (arena : List (A × Span)) → Each arena → each_of (without_span codec.decode) (items_of (map codec.encode (values arena))) ≡ Some (unspanned arena)
  each_of-values [] fit = refl
  each_of-values (entry ∷ arena) fit =
      rw ((law.reads entry.0 (All-head (λ (e : A × Span). codec.Fits e.0) entry arena fit)).reads, each_of-values arena (All-tail (λ (e : A × Span). codec.Fits e.0) entry arena fit)) refl

  ItemsHaveNumbers-values : (arena : List (A × Span)) → Each arena → ItemsHaveNumbers (items_of (map codec.encode (values arena)))
  ItemsHaveNumbers-values [] fit = tt
  ItemsHaveNumbers-values (entry ∷ arena) fit = (
    (law.reads entry.0 (All-head (λ (e : A × Span). codec.Fits e.0) entry arena fit)).numbers,
    ItemsHaveNumbers-values arena (All-tail (λ (e : A × Span). codec.Fits e.0) entry arena fit),
  )

  pub lawful-arena : Lawful (arena_codec codec)
  lawful-arena = record {
    reads = λ arena fits. record {
      reads = rw (short_items (items_of (map codec.encode (values arena))) (omega (arith, fits.size, item_count-items_of (map codec.encode (values arena)), length-values codec.encode arena)), each_of-values arena fits.each) (ap Some fits.spans);
      numbers = ItemsHaveNumbers-values arena fits.each;
      present = refl;
    };
    gives = gives-arena codec.Fits codec.decode law.gives;
  }
