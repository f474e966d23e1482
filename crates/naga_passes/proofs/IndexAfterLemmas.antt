-- Handles after sets of kept handles, and what is before for what is after.
use Rattle.std.proofs.Common.{◌≡◌, ◌∙◌, sym, ap, refl, inl, inr, ℕ, ◌+◌, ◌<◌, ◌≤◌, Bool, true, false, List, [], ◌∷◌, arith}
use Rattle.std.proofs.lemmas.Bool.{cases_lt}
use Rattle.std.proofs.lemmas.List.Elements.{All-cons, All-nil, All-weaker}
use Rattle.std.specs.Cmp.{nat_cmp_total}
use Rattle.std.specs.FinSet.{contains, contains-from_list, contains-items, from_list, items}
use Rattle.std.specs.List.{All}
use Rattle.std.specs.Prelude.{◌⊎◌, ◌&&◌}
use Rattle.naga_sets.specs.HandleSet.{BoundedSet}
use Rattle.naga_sets.proofs.FinSetLemmas.{FinSet-extensional}
use Rattle.naga_compact.specs.Kept.{new_index}
use Rattle.naga_compact.proofs.RankLemmas.{rank-grows, rank-increases, rank-injective, rank-onto, small_below}
use Rattle.naga_passes.specs.Meanings.{index_after, is_kept}

-- ---- handles that are kept by several sets

pub both-kept : (c d : Bool) → c ≡ true → d ≡ true → (c && d) ≡ true
both-kept true true so also = refl
both-kept true false so also = also
both-kept false d so also = so

pub first-kept : (c d : Bool) → (c && d) ≡ true → c ≡ true
first-kept true d so = refl
first-kept false d so = so

pub second-kept : (c d : Bool) → (c && d) ≡ true → d ≡ true
second-kept true d so = so
second-kept false d so = absurd (let e : false ≡ true = so in cc)

-- ---- where a new handle comes from

abbrev above : List ℕ → ℕ
above [] = 0
above (x ∷ xs) = x + 1 + above xs

all_below : (xs : List ℕ) → All (λ x. x < above xs) xs
all_below [] = All-nil (λ x. x < above [])
all_below (x ∷ xs) = All-cons (λ y. y < above (x ∷ xs)) x xs (omega arith)
    (All-weaker (λ y. y < above xs) (λ y. y < above (x ∷ xs)) (λ y below. omega arith) xs (all_below xs))

-- a number above all members of a set
abbrev above_all : BoundedSet → ℕ
above_all kept = above (items kept.members)

below_all : (kept : BoundedSet) (x : ℕ) → contains kept.members x ≡ true → x < above_all kept
below_all kept x member =
    small_below (items kept.members) kept.members (above_all kept)
    (FinSet-extensional (from_list (items kept.members)) kept.members (λ q. contains-from_list nat_cmp_total (items kept.members) q ∙ sym (contains-items kept.members q)))
    (all_below (items kept.members)) x member

abbrev origin_by : (kept : BoundedSet) (limit y : ℕ) → (y < new_index kept limit) ⊎ (new_index kept limit ≤ y) → ℕ
origin_by kept limit y (inl below) = (rank-onto (contains kept.members) limit y below).0
origin_by kept limit y (inr past) = 0

-- the kept handle with this new index, if there is one
abbrev origin : BoundedSet → ℕ → ℕ
origin kept y = origin_by kept (above_all kept) y (cases_lt y (new_index kept (above_all kept)))

origin_by-index : (kept : BoundedSet) (x : ℕ) → contains kept.members x ≡ true →
    (d : (new_index kept x < new_index kept (above_all kept)) ⊎ (new_index kept (above_all kept) ≤ new_index kept x)) →
    origin_by kept (above_all kept) (new_index kept x) d ≡ x
origin_by-index kept x member (inl below) =
    let found = rank-onto (contains kept.members) (above_all kept) (new_index kept x) below in
    rank-injective (contains kept.members) found.0 x found.1 member found.2
origin_by-index kept x member (inr past) =
    absurd (omega (arith, rank-increases (contains kept.members) x (above_all kept) member (below_all kept x member)))

origin-index : (kept : BoundedSet) (x : ℕ) → contains kept.members x ≡ true → origin kept (new_index kept x) ≡ x
origin-index kept x member = origin_by-index kept x member (cases_lt (new_index kept x) (new_index kept (above_all kept)))

-- each handle below a new index is that of a kept handle
pub origin-below : (kept : BoundedSet) (limit y : ℕ) → y < new_index kept limit → (x : ℕ) × (x < limit) × (contains kept.members x ≡ true) × (new_index kept x ≡ y)
origin-below kept limit y below =
    let found = rank-onto (contains kept.members) limit y below in
    let inside : found.0 < limit = elim (cases_lt found.0 limit) [
      | inl lt ↦ lt
      | inr past ↦ absurd (omega (arith, rank-grows (contains kept.members) limit found.0 past, found.2))
    ] in
    (found.0, inside, found.1, found.2)

-- ---- what is between what is before and what is after

module _ {X : Type 0} (kept : BoundedSet) (others : List BoundedSet) (before after : ℕ → X) where
  abbrev between_by : (y : ℕ) → Bool → X
  between_by y true = after (index_after others y)
  between_by y false = before (origin kept y)

  -- after the first set: what is after, of a handle that is kept by the others, and else what is before
  abbrev pub between : ℕ → X
  between y = between_by y (is_kept others y)

  module _ (same : (x : ℕ) → is_kept (kept ∷ others) x ≡ true → after (index_after (kept ∷ others) x) ≡ before x) where
    between_by-before : (x : ℕ) → contains kept.members x ≡ true → (b : Bool) → is_kept others (new_index kept x) ≡ b → between_by (new_index kept x) b ≡ before x
    between_by-before x member true so = same x (both-kept (contains kept.members x) (is_kept others (new_index kept x)) member so)
    between_by-before x member false so = ap before (origin-index kept x member)

    pub between-before : (x : ℕ) → contains kept.members x ≡ true → between (new_index kept x) ≡ before x
    between-before x member = between_by-before x member (is_kept others (new_index kept x)) refl

  pub between-after : (y : ℕ) → is_kept others y ≡ true → after (index_after others y) ≡ between y
  between-after y so = sym (ap (between_by y) so)
