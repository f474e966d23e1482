-- Searches of words in ascending order.
use Rattle.std.proofs.Common.{◌≡◌, ℕ, zero, suc, ◌+◌, ◌<◌, ◌≤◌, List, [], ◌∷◌, Bool, true, false, ◌||◌, get_or, length, ltb, refl, ap, sym, ◌∙◌, arith}
use Rattle.std.proofs.lemmas.Bool.{false≢true}
use Rattle.std.proofs.lemmas.Bool.Decides.{nat_tests}
use Rattle.std.proofs.lemmas.Cmp.{nat_list_cmp_total}
use Rattle.std.proofs.lemmas.List.{get_or_default}
use Rattle.std.proofs.lemmas.List.Sorted.{searchable_from_sorted}
use Rattle.std.specs.Borrow.{Bor}
use Rattle.std.specs.Cmp.Lexicographic.{slice_cmp, texts_ties}
use Rattle.std.specs.List.{AllAdjacentBelow, list_any}
use Rattle.std.specs.List.Sorted.{IsNonDecreasingBy, IsPartitionPoint, IsPartitionedBy}
use Rattle.std.specs.Ordering.{is_eq, is_le, is_lt, nat_cmp, ordering_index, ordering_reverse}
use Rattle.std.specs.Str.{bytes_eq}
use Rattle.std.specs.declared.cmp.Ordering.{Ordering}
use Rattle.std.specs.declared.cmp.Ordering.TheVariants.{Less, Equal, Greater}
use Rattle.naga_namer.specs.Words.{Ascend, texts}
use Rattle.naga_namer.proofs.ListAnyLemmas.{any-found}

-- the order of a word and a text
abbrev pub order_of : List ℕ → Bor (List ℕ) → Ordering
order_of text word = slice_cmp nat_cmp word.now text

-- the word comes before the text
abbrev pub is_before : List ℕ → Bor (List ℕ) → Bool
is_before text word = is_lt (order_of text word)

none-of : (p : List ℕ → Bool) (e : Bor (List ℕ)) (words : List (Bor (List ℕ)))
    → ((k : ℕ) → k < length words → p (get_or words k e).now ≡ false) → false ≡ list_any p (texts words)
none-of p e [] fails = refl
none-of p e (word ∷ words) fails =
    none-of p e words (λ k within. fails (suc k) (omega arith))
    ∙ ap (λ (b : Bool). b || list_any p (texts words)) (sym (fails zero (omega arith)))

first-index : (order : Ordering) → is_lt order ≡ true → ordering_index order ≡ 0
first-index Less before = refl
first-index Equal before = absurd (false≢true before)
first-index Greater before = absurd (false≢true before)

from-index : (order : Ordering) → ordering_index order ≤ 0 → is_lt order ≡ true
from-index Less low = refl
from-index Equal low = absurd (omega arith)
from-index Greater low = absurd (omega arith)

before-differs : (order : Ordering) → is_lt order ≡ true → is_eq order ≡ false
before-differs Less before = refl
before-differs Equal before = absurd (false≢true before)
before-differs Greater before = refl

-- neither before nor the same: after
after-index : (order : Ordering) → is_lt order ≡ false → is_eq order ≡ false → 2 ≤ ordering_index order
after-index Less before other = absurd (false≢true (sym before))
after-index Equal before other = absurd (false≢true (sym other))
after-index Greater before other = omega arith

after-differs : (order : Ordering) → 2 ≤ ordering_index order → is_eq order ≡ false
after-differs Less high = absurd (omega arith)
after-differs Equal high = absurd (omega arith)
after-differs Greater high = refl

module _ (text : List ℕ) (words : List (Bor (List ℕ))) (ascend : Ascend words) where
  rises : IsNonDecreasingBy (λ word. ordering_index (order_of text word)) words
  rises = searchable_from_sorted nat_list_cmp_total (λ (word : Bor (List ℕ)). word.now) words text ascend

  -- no word that comes before the text follows one that does not
  pub partitioned : IsPartitionedBy (is_before text) words
  partitioned i j d up within before =
      let last : ordering_index (order_of text (get_or words j d)) ≡ 0 = first-index (order_of text (get_or words j d)) before in
      let risen : ordering_index (order_of text (get_or words i d)) ≤ ordering_index (order_of text (get_or words j d)) = rises i j d up within in
      from-index (order_of text (get_or words i d)) (omega (arith, last, risen))

  module _ (at : ℕ) (split : IsPartitionPoint (λ word. is_before text word ≡ true) (λ word. is_before text word ≡ false) words at)
      (e : Bor (List ℕ)) where
    differs-below : (k : ℕ) → k < at → bytes_eq (get_or words k e).now text ≡ false
    differs-below k below =
        texts_ties (get_or words k e).now text ∙ before-differs (order_of text (get_or words k e)) (split.0 k e (omega arith) below)

    module _ (other : at < length words → bytes_eq (get_or words at e).now text ≡ false) where
      differs-above : (k : ℕ) → at ≤ k → k < length words → bytes_eq (get_or words k e).now text ≡ false
      differs-above k above within =
          let least : 2 ≤ ordering_index (order_of text (get_or words at e)) =
          after-index (order_of text (get_or words at e)) (split.1 at e (omega arith) (omega arith))
          (sym (texts_ties (get_or words at e).now text) ∙ other (omega arith)) in
          let risen : ordering_index (order_of text (get_or words at e)) ≤ ordering_index (order_of text (get_or words k e)) = rises at k e above within in
          texts_ties (get_or words k e).now text ∙ after-differs (order_of text (get_or words k e)) (omega (arith, least, risen))

      differs : (k : ℕ) (b : Bool) → ltb k at ≡ b → k < length words → bytes_eq (get_or words k e).now text ≡ false
      differs k true is within = differs-below k (grind (arith, nat_tests))
      differs k false is within = differs-above k (grind (arith, nat_tests)) within

      -- The text is no word, if the first word that does not come before it is another one, or is not there.
      pub missing : false ≡ list_any (λ word. bytes_eq word text) (texts words)
      missing = none-of (λ word. bytes_eq word text) e words (λ k within. differs k (ltb k at) refl within)

    -- whether the text is a word, if there is a first word that does not come before it
    pub searched : at < length words → (b : Bool) → bytes_eq (get_or words at e).now text ≡ b
        → b ≡ list_any (λ word. bytes_eq word text) (texts words)
    searched within true same = any-found (λ word. bytes_eq word text) words at e within same
    searched within false other = missing (λ inside. other)

-- The words below `low` come before the text, and those from `high` on do not.
pub record IsNarrowed (text : List ℕ) (words : List (Bor (List ℕ))) (low high : ℕ) : Type 0 where
  pub ordered : low ≤ high
  pub within : high ≤ length words
  pub below : (k : ℕ) (d : Bor (List ℕ)) → k < low → is_before text (get_or words k d) ≡ true
  pub above : (k : ℕ) (d : Bor (List ℕ)) → high ≤ k → k < length words → is_before text (get_or words k d) ≡ false

pub narrowed-at-first : (text : List ℕ) (words : List (Bor (List ℕ))) → IsNarrowed text words 0 (length words)
narrowed-at-first text words = record {
  ordered = omega arith;
  within = omega arith;
  below = λ k d under. absurd (omega (arith, under));
  above = λ k d over inside. absurd (omega (arith, over, inside));
}

not-true : (b : Bool) → (b ≡ true → ⊥) → b ≡ false
not-true true other = absurd (other refl)
not-true false other = refl

module _ (text : List ℕ) (words : List (Bor (List ℕ))) (ascend : Ascend words) (low high middle : ℕ) (e : Bor (List ℕ))
    (narrowed : IsNarrowed text words low high) (from : low ≤ middle) (to : middle < high) where
  here : (d : Bor (List ℕ)) (b : Bool) → is_before text (get_or words middle e) ≡ b → is_before text (get_or words middle d) ≡ b
  here d b is = ap (is_before text) (get_or_default words middle d e (omega (arith, to, narrowed.within))) ∙ is

  -- the word in the middle comes before the text
  pub upper-half : is_before text (get_or words middle e) ≡ true → IsNarrowed text words (middle + 1) high
  upper-half before = record {
    ordered = omega (arith, to);
    within = narrowed.within;
    below = λ k d under.
        partitioned text words ascend k middle d (omega (arith, under)) (omega (arith, to, narrowed.within)) (here d true before);
    above = narrowed.above;
  }

  -- it does not
  pub lower-half : is_before text (get_or words middle e) ≡ false → IsNarrowed text words low middle
  lower-half other = record {
    ordered = from;
    within = omega (arith, to, narrowed.within);
    below = narrowed.below;
    above = λ k d over inside. not-true (is_before text (get_or words k d)) (λ before.
        false≢true (sym (here d false other) ∙ partitioned text words ascend middle k d over inside before));
  }

-- nothing is left
pub narrowed-at-last : (text : List ℕ) (words : List (Bor (List ℕ))) (low high : ℕ) → IsNarrowed text words low high → high ≤ low
    → IsPartitionPoint (λ word. is_before text word ≡ true) (λ word. is_before text word ≡ false) words low
narrowed-at-last text words low high narrowed met = (
  λ k d from under. narrowed.below k d under,
  λ k d over inside. narrowed.above k d (omega (arith, met, over)) inside,
)

pub not-below : (at long : ℕ) → long ≤ at → ltb at long ≡ false
not-below at long past = grind (arith, nat_tests)

reversed : (order : Ordering) → is_le order ≡ true → is_lt (ordering_reverse order) ≡ false
reversed Less before = refl
reversed Equal before = refl
reversed Greater before = absurd (false≢true before)

-- words of which each is no greater than the next one
pub ascends : (words : List (Bor (List ℕ)))
    → AllAdjacentBelow (λ x y. is_le (slice_cmp nat_cmp x.now y.now) ≡ true) words (length words) → Ascend words
ascends words rising k d low within =
    let next : Bor (List ℕ) = get_or words (k + 1) d in
    let word : Bor (List ℕ) = get_or words k d in
    ap is_lt (nat_list_cmp_total.antisymm next.now word.now) ∙ reversed (slice_cmp nat_cmp word.now next.now) (rising k d within)
