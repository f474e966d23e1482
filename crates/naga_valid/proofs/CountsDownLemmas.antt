-- Visitors that stop at the reference at a position.
use Rattle.std.proofs.Common.{arith, ◌≡◌, ◌∙◌, sym, ap, subst, refl, inl, inr, ℕ, zero, suc, add-one, ◌+◌, ◌<◌, List, [], ◌∷◌, drop, get_or, length, map}
use Rattle.std.proofs.Math.ListN.{drop_of_length-le}
use Rattle.std.proofs.lemmas.Bool.{cases_lt}
use Rattle.std.specs.ControlFlow.{MatchControlFlow}
use Rattle.std.specs.declared.ops.ControlFlow.{ControlFlow}
use Rattle.std.specs.declared.ops.ControlFlow.TheVariants.{Break, Continue}
use Rattle.naga_valid.specs.Visits.{AreVisited, counts_down}
use Rattle.naga_valid.specs.declared.reference.Reference.{Reference}
use Rattle.naga_valid.specs.declared.references.nth.Nth.{Nth}

-- ---- what was visited

-- the reference at the position, and those after it
abbrev pub IsAt : List Reference → ℕ → Reference → Type 0
IsAt list position to = drop position list ≡ to ∷ drop (position + 1) list

pub IsAt-within : (list : List Reference) (position : ℕ) (to : Reference) → IsAt list position to → position < length list
IsAt-within list position to found = elim (cases_lt position (length list)) [
  | inl within ↦ within
  | inr past ↦ absurd (omega (arith, ap length (sym (drop_of_length-le list past) ∙ found)))
]

-- the list was passed, or the visitor stopped at the position
abbrev pub Finds : List Reference → ℕ → ControlFlow Reference (Unit {0}) → Nth → Type 0
Finds list position answer new = MatchControlFlow answer (λ _. position ≡ new.left + length list) (IsAt list position)

Finds-later : (to : Reference) (others : List Reference) (position left : ℕ) (answer : ControlFlow Reference (Unit {0})) (new : Nth) → position ≡ left + 1 → Finds others left answer new → Finds (to ∷ others) position answer new
Finds-later to others position left (Continue _) new is passed = omega (arith, is, passed)
Finds-later to others position left (Break stop) new is found =
    subst (λ n. IsAt (to ∷ others) n stop) (sym (is ∙ add-one left))
    (found ∙ ap (λ n. stop ∷ drop n others) (add-one left) ∙ ap (λ n. stop ∷ drop n (to ∷ others)) (sym (add-one (suc left))))

pub counts_down-finds : (old : Nth) (list : List Reference) (answer : ControlFlow Reference (Unit {0})) (new : Nth) → AreVisited counts_down old list answer new → Finds list old.left answer new
counts_down-finds old [] answer new visited =
    subst (λ a. Finds [] old.left a new) (sym visited.0) (omega (arith, ap (λ (n : Nth). n.left) visited.1))
counts_down-finds old (to ∷ others) answer new (inl (stop, is, (same, none, kept))) =
    subst (λ a. Finds (to ∷ others) old.left a new) (sym is)
    (subst (λ n. IsAt (to ∷ others) n stop) (sym none) (ap (λ t. t ∷ others) (sym same)))
counts_down-finds old (to ∷ others) answer new (inr (next, passed, visited)) =
    Finds-later to others old.left next.left answer new passed (counts_down-finds next others answer new visited)

-- ---- a list that is visited at once

abbrev at : ℕ → Nth
at n = record { left = n }

module _ {X : Type 0} (f : X → Reference) where
  pub counts_down-stops : (xs : List X) (n : ℕ) (x : X) → n < length xs → x ≡ get_or xs n x → AreVisited counts_down (at n) (map f xs) (Break (f x)) (at 0)
  counts_down-stops [] n x within is = absurd (omega (arith, within))
  counts_down-stops (y ∷ ys) zero x within is = inl (f x, refl, (ap f is, refl, refl))
  counts_down-stops (y ∷ ys) (suc n) x within is =
      inr (at n, sym (add-one n), counts_down-stops ys n x (omega (arith, within)) is)

  pub counts_down-passes : (xs : List X) (n left : ℕ) → n ≡ left + length xs → AreVisited counts_down (at n) (map f xs) (Continue tt) (at left)
  counts_down-passes [] n left is = let same : left ≡ n = omega (arith, is) in (refl, ap at same)
  counts_down-passes (y ∷ ys) zero left is = absurd (omega (arith, is))
  counts_down-passes (y ∷ ys) (suc n) left is = inr (at n, sym (add-one n), counts_down-passes ys n left (omega (arith, is)))
