-- How many handles below the bound of a set are not members.
use Rattle.std.proofs.Common.{◌≡◌, ◌∙◌, sym, ap, refl, inl, inr, ℕ, zero, suc, ◌+◌, ◌<◌, ◌≤◌, Bool, true, false, ◌&&◌, ◌||◌, not, arith}
use Rattle.std.proofs.lemmas.Bool.{cases_eq, cases_lt}
use Rattle.std.proofs.lemmas.Bool.Decides.{nat_tests}
use Rattle.std.specs.FinSet.{contains}
use Rattle.std.specs.Prelude.{if◌then◌else◌, nat_eq, nat_lt}
use Rattle.naga_sets.specs.HandleSet.{BoundedSet, none_below}
use Rattle.naga_sets.proofs.FinSetLemmas.{contains-insert_number}
use Rattle.naga_compact.specs.Kept.{rank}
use Rattle.naga_compact.specs.Marks.{put}
use Rattle.naga_compact.specs.Module.Visits.{absent, is_new_member}
use Rattle.naga_compact.proofs.MarkLemmas.{put-bound, put-has, put-inside, put-outside}
use Rattle.naga_compact.proofs.RankLemmas.{rank-le}

-- ---- tests that agree on some numbers

-- the same numbers below `n` pass both tests
rank-same : (f g : ℕ → Bool) (n : ℕ) → ((k : ℕ) → k < n → f k ≡ g k) → rank f n ≡ rank g n
unfolding rank
rank-same f g zero same = refl
rank-same f g (suc n) same =
    let before : rank f n ≡ rank g n = rank-same f g n (λ k lt. same k (omega arith)) in
    rw (same n (omega arith), before) refl

-- the tests agree on all numbers except for `h`, which passes only the first one
rank-except : (f g : ℕ → Bool) (h : ℕ) → f h ≡ true → g h ≡ false → ((k : ℕ) → ¬ (k ≡ h) → f k ≡ g k) → (n : ℕ) → h < n → rank f n ≡ rank g n + 1
unfolding rank
rank-except f g h passes fails same zero lt = absurd (omega arith)
rank-except f g h passes fails same (suc n) lt = elim (cases_eq n h) [
  | inl is ↦
      let before : rank f n ≡ rank g n = rank-same f g n (λ k below. same k (λ e. absurd (omega arith))) in
      let passes_here : f n ≡ true = ap f is ∙ passes in
      let fails_here : g n ≡ false = ap g is ∙ fails in
      rw (passes_here, fails_here) (omega (arith, before))
  | inr differs ↦
      let before : rank f n ≡ rank g n + 1 = rank-except f g h passes fails same n (omega arith) in
      rw (same n differs) (omega (arith, before))
]

-- ---- a set with one more member

put-contains : (s : BoundedSet) (h k : ℕ) → h < s.bound → contains (put s h).members k ≡ (nat_eq k h || contains s.members k)
put-contains s h k lt =
    ap (λ (t : BoundedSet). contains t.members k) (put-inside s h lt) ∙ contains-insert_number s.members h k

put-other : (s : BoundedSet) (h k : ℕ) → h < s.bound → ¬ (k ≡ h) → contains (put s h).members k ≡ contains s.members k
put-other s h k lt differs =
    let other : nat_eq k h ≡ false = grind (arith, nat_tests) in
    put-contains s h k lt ∙ ap (λ b. b || contains s.members k) other

put-again : (s : BoundedSet) (h k : ℕ) → h < s.bound → contains s.members h ≡ true → contains (put s h).members k ≡ contains s.members k
put-again s h k lt member = elim (cases_eq k h) [
  | inl same ↦ ap (contains (put s h).members) same ∙ (put-has s h lt ∙ (sym member ∙ ap (contains s.members) (sym same)))
  | inr differs ↦ put-other s h k lt differs
]

absent-put_again : (s : BoundedSet) (h : ℕ) → h < s.bound → contains s.members h ≡ true → absent (put s h) ≡ absent s
absent-put_again s h lt member =
    ap (λ n. rank (λ handle. not (contains (put s h).members handle)) n) (put-bound s h)
    ∙ rank-same (λ handle. not (contains (put s h).members handle)) (λ handle. not (contains s.members handle)) s.bound (λ k below. ap not (put-again s h k lt member))

absent-put_new : (s : BoundedSet) (h : ℕ) → h < s.bound → contains s.members h ≡ false → absent s ≡ absent (put s h) + 1
absent-put_new s h lt missing =
    rank-except (λ handle. not (contains s.members handle)) (λ handle. not (contains (put s h).members handle)) h (ap not missing) (ap not (put-has s h lt)) (λ k differs. ap not (sym (put-other s h k lt differs))) s.bound lt
    ∙ ap (λ n. rank (λ handle. not (contains (put s h).members handle)) n + 1) (sym (put-bound s h))

absent-put_inside : (s : BoundedSet) (h : ℕ) → h < s.bound → (b : Bool) → contains s.members h ≡ b → absent s ≡ absent (put s h) + (if not b then 1 else 0)
absent-put_inside s h lt true is = omega (arith, absent-put_again s h lt is)
absent-put_inside s h lt false is = absent-put_new s h lt is

-- one handle less is absent if the member is new
pub absent-put : (s : BoundedSet) (h : ℕ) → absent s ≡ absent (put s h) + (if is_new_member s h then 1 else 0)
absent-put s h = elim (cases_lt h s.bound) [
  | inl lt ↦
      let inside : nat_lt h s.bound ≡ true = grind (arith, nat_tests) in
      absent-put_inside s h lt (contains s.members h) refl
      ∙ ap (λ b. absent (put s h) + (if b && not (contains s.members h) then 1 else 0)) (sym inside)
  | inr ge ↦
      let outside : nat_lt h s.bound ≡ false = grind (arith, nat_tests) in
      let same : absent s ≡ absent (put s h) + 0 = omega (arith, ap absent (put-outside s h ge)) in
      same ∙ ap (λ b. absent (put s h) + (if b && not (contains s.members h) then 1 else 0)) (sym outside)
]

-- not more handles are absent than the bound allows
pub absent-none : (n : ℕ) → absent (none_below n) ≤ n
absent-none n = rank-le _ n
