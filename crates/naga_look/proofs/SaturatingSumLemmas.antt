-- Sums that stay at a maximum, one addend after another.
use Rattle.std.proofs.Common.{◌≡◌, ◌∙◌, sym, ap, ℕ, ◌+◌, ◌-◌, ◌^◌, ◌<◌, ◌≤◌, List, [], ◌∷◌, length, get_or, drop, arith}
use Rattle.std.proofs.lemmas.List.{drop_all}
use Rattle.std.proofs.lemmas.List.Sums.{sum_by-cons, sum_by-drop_more}
use Rattle.std.specs.Prelude.{min, sum_by}
use Rattle.naga_look.specs.Summary.{saturating_sum}

min-again : (m c a b : ℕ) → min (min (c + a) m + b) m ≡ min (c + (a + b)) m
min-again m c a b = omega arith

-- two addends, one after the other
pub saturating_sum-again : (counted a b : ℕ) → saturating_sum (saturating_sum counted a) b ≡ saturating_sum counted (a + b)
saturating_sum-again counted a b = min-again (2 ^ 64 - 1) counted a b

min-none : (m c : ℕ) → c ≤ m → c ≡ min (c + 0) m
min-none m c within = omega arith

pub saturating_sum-none : (counted : ℕ) → counted < 2 ^ 64 → counted ≡ saturating_sum counted 0
saturating_sum-none counted within = min-none (2 ^ 64 - 1) counted (omega arith)

min-fits : (m c a new : ℕ) → new ≡ min (c + a) m → new < m + 1
min-fits m c a new is = omega (arith, is)

-- a sum fits its type
pub saturating_sum-fits : (counted new a : ℕ) → new ≡ saturating_sum counted a → new < 2 ^ 64
saturating_sum-fits counted new a is = min-fits (2 ^ 64 - 1) counted a new is

-- ---- the sum over a list, element by element: those of `rest` are still to be added

module _ {X : Type 0} (f : X → ℕ) where
  added : (now new whole rest : ℕ) (x : X) → saturating_sum now (f x + rest) ≡ whole → new ≡ saturating_sum now (f x) → saturating_sum new rest ≡ whole
  added now new whole rest x so one = ap (λ t. saturating_sum t rest) one ∙ (saturating_sum-again now (f x) rest ∙ so)

  pub added-next : (now new whole : ℕ) (items rest : List X) (x : X) → items ≡ x ∷ rest → saturating_sum now (sum_by f items) ≡ whole → new ≡ saturating_sum now (f x) → saturating_sum new (sum_by f rest) ≡ whole
  added-next now new whole items rest x is so one =
      added now new whole (sum_by f rest) x (ap (saturating_sum now) (sym (sum_by-cons f x rest)) ∙ (ap (λ xs. saturating_sum now (sum_by f xs)) (sym is) ∙ so)) one

  pub added-end : (now whole : ℕ) (items : List X) → items ≡ [] → now < 2 ^ 64 → saturating_sum now (sum_by f items) ≡ whole → now ≡ whole
  added-end now whole items is within so =
      saturating_sum-none now within ∙ (ap (λ xs. saturating_sum now (sum_by f xs)) (sym is) ∙ so)

  -- the same, by the index of the first element that is still to be added
  pub added-at : (now new whole : ℕ) (items : List X) (i : ℕ) (x : X) → i < length items → x ≡ get_or items i x → saturating_sum now (sum_by f (drop i items)) ≡ whole → new ≡ saturating_sum now (f x) → saturating_sum new (sum_by f (drop (i + 1) items)) ≡ whole
  added-at now new whole items i x inside is so one =
      added now new whole (sum_by f (drop (i + 1) items)) x
      (ap (λ n. saturating_sum now (n + sum_by f (drop (i + 1) items))) (ap f is) ∙ (ap (saturating_sum now) (sym (sum_by-drop_more f items i x inside)) ∙ so)) one

  pub added-past : (now whole : ℕ) (items : List X) (i : ℕ) → length items ≤ i → now < 2 ^ 64 → saturating_sum now (sum_by f (drop i items)) ≡ whole → now ≡ whole
  added-past now whole items i past within so = added-end now whole (drop i items) (drop_all i items past) within so
