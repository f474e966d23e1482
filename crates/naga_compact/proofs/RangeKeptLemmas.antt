-- What is left of a range.
use Rattle.std.proofs.Common.{◌≡◌, ◌∙◌, sym, ap, refl, inl, inr, ℕ, zero, suc, ◌+◌, ◌-◌, ◌<◌, ◌≤◌, List, [], ◌∷◌, map, Bool, true, false, arith}
use Rattle.std.proofs.lemmas.Bool.{cases_Bool, cases_lt}
use Rattle.std.proofs.lemmas.Bool.Decides.{nat_tests}
use Rattle.std.specs.Prelude.{nat_lt}
use Rattle.std.specs.List.{filter, range_with_len}
use Rattle.naga_arena.specs.Range.{handles_of}
use Rattle.naga_compact.specs.Kept.{rank}
use Rattle.naga_compact.specs.Renaming.{rename_range}
use Rattle.naga_compact.proofs.RankLemmas.{rank-grows, rank-no, rank-yes}

filter_yes : (kept : ℕ → Bool) (a : ℕ) (rest : List ℕ) → kept a ≡ true → filter kept (a ∷ rest) ≡ a ∷ filter kept rest
filter_yes kept a rest so = rw so refl

filter_no : (kept : ℕ → Bool) (a : ℕ) (rest : List ℕ) → kept a ≡ false → filter kept (a ∷ rest) ≡ filter kept rest
filter_no kept a rest so = rw so refl

range_from : (kept : ℕ → Bool) (n a m : ℕ) → rank kept a + m ≡ rank kept (a + n) → range_with_len (rank kept a) m ≡ map (rank kept) (filter kept (range_with_len a n))
range_from kept zero a m is =
    let here : a + zero ≡ a = omega arith in
    let none : m ≡ 0 = omega (arith, is, ap (rank kept) here) in
    ap (range_with_len (rank kept a)) none
range_from kept (suc n) a m is =
    let next : a + suc n ≡ a + 1 + n = omega arith in
    let same = ap (rank kept) next in
    let grows = rank-grows kept (a + 1) (a + 1 + n) (omega arith) in
    elim (cases_Bool (kept a)) [
      | inl first ↦
          let up = rank-yes kept a first in
          let less : m ≡ suc (m - 1) = omega (arith, up, grows, same, is) in
          ap (range_with_len (rank kept a)) less
          ∙ (ap (λ b. rank kept a ∷ range_with_len b (m - 1)) (sym up)
          ∙ (ap (λ xs. rank kept a ∷ xs) (range_from kept n (a + 1) (m - 1) (omega (arith, up, grows, same, is)))
          ∙ ap (map (rank kept)) (sym (filter_yes kept a (range_with_len (a + 1) n) first))))
      | inr first ↦
          let stays = rank-no kept a first in
          ap (λ b. range_with_len b m) (sym stays)
          ∙ (range_from kept n (a + 1) m (omega (arith, stays, same, is))
          ∙ ap (map (rank kept)) (sym (filter_no kept a (range_with_len (a + 1) n) first)))
    ]

range_yes : (f : ℕ → ℕ) (a b : ℕ) → f a < f b → handles_of (rename_range f (a, b)) ≡ range_with_len (f a) (f b - f a)
range_yes f a b lt = let yes' : nat_lt (f a) (f b) ≡ true = grind (arith, nat_tests) in rw yes' refl

range_no : (f : ℕ → ℕ) (a b : ℕ) → f b ≤ f a → handles_of (rename_range f (a, b)) ≡ []
range_no f a b ge = let no' : nat_lt (f a) (f b) ≡ false = grind (arith, nat_tests) in rw no' refl

pub range_kept : (kept : ℕ → Bool) (range : ℕ × ℕ) → handles_of (rename_range (rank kept) range) ≡ map (rank kept) (filter kept (handles_of range))
range_kept kept (a, b) = elim (cases_lt b a) [
  | inl lt ↦
      let none : b - a ≡ 0 = omega arith in
      range_no (rank kept) a b (rank-grows kept b a (omega arith))
      ∙ sym (ap (λ n. map (rank kept) (filter kept (range_with_len a n))) none)
  | inr ge ↦
      let whole : a + (b - a) ≡ b = omega arith in
      let same = ap (rank kept) whole in
      let grows = rank-grows kept a b ge in
      elim (cases_lt (rank kept a) (rank kept b)) [
        | inl lt ↦ range_yes (rank kept) a b lt ∙ range_from kept (b - a) a (rank kept b - rank kept a) (omega (arith, same))
        | inr le ↦ range_no (rank kept) a b le ∙ range_from kept (b - a) a 0 (omega (arith, same, grows))
      ]
]
