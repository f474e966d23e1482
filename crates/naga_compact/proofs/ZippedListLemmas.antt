-- Lists that are related element by element, as far as a position.
use Rattle.std.proofs.Common.{◌≡◌, sym, ap, subst, refl, ℕ, zero, suc, ◌+◌, ◌<◌, ◌≤◌, List, [], ◌∷◌, length, get_or, Some, arith}
use Rattle.std.proofs.Math.ListN.{set}
use Rattle.std.specs.List.{AllZip}
use Rattle.naga_arena.specs.Arena.{span_at, value_at, with_value}
use Rattle.naga_arena.specs.declared.span.Span.{Span}
use Rattle.naga_compact.proofs.MapValuesLemmas.{entry_read}

module _ {X : Type 0} (R : X → X → Type 0) where
  -- R holds of the elements of two lists before a position, place by place, and the others are the same
  abbrev pub AllZipTo : ℕ → List X → List X → Type 0
  AllZipTo zero xs ys = ys ≡ xs
  AllZipTo (suc k) [] ys = ys ≡ []
  AllZipTo (suc k) (x ∷ xs) [] = ⊥
  AllZipTo (suc k) (x ∷ xs) (y ∷ ys) = R x y × AllZipTo k xs ys

  pub AllZipTo-length : (k : ℕ) (xs ys : List X) → AllZipTo k xs ys → length ys ≡ length xs
  AllZipTo-length zero xs ys so = ap length so
  AllZipTo-length (suc k) [] ys so = ap length so
  AllZipTo-length (suc k) (x ∷ xs) [] so = absurd so
  AllZipTo-length (suc k) (x ∷ xs) (y ∷ ys) so = ap suc (AllZipTo-length k xs ys so.1)

  one_more : (k : ℕ) (xs now : List X) (x y : X) → AllZipTo k xs now → k < length xs → x ≡ get_or now k x → R x y → AllZipTo (suc k) xs (set now k y)
  one_more k [] now x y so inside read holds = absurd (omega arith)
  one_more zero (z ∷ xs) [] x y so inside read holds = absurd (cc)
  one_more zero (z ∷ xs) (w ∷ now) x y so inside read holds =
      let here : x ≡ z = cc in
      let rest : now ≡ xs = cc in (subst (λ v. R v y) here holds, rest)
  one_more (suc k) (z ∷ xs) [] x y so inside read holds = absurd so
  one_more (suc k) (z ∷ xs) (w ∷ now) x y so inside read holds =
      (so.0, one_more k xs now x y so.1 (omega arith) read holds)

  pub AllZipTo-more : (k : ℕ) (xs now : List X) (x y : X) → AllZipTo k xs now → k < length xs → x ≡ get_or now k x → R x y → AllZipTo (k + 1) xs (set now k y)
  AllZipTo-more k xs now x y so inside read holds =
      let next : suc k ≡ k + 1 = omega arith in
      subst (λ n. AllZipTo n xs (set now k y)) next (one_more k xs now x y so inside read holds)

  pub AllZip-past : (k : ℕ) (xs ys : List X) → length xs ≤ k → AllZipTo k xs ys → AllZip R xs ys
  AllZip-past zero [] [] past so = tt
  AllZip-past zero [] (y ∷ ys) past so = absurd (cc)
  AllZip-past zero (x ∷ xs) ys past so = absurd (omega arith)
  AllZip-past (suc k) [] [] past so = tt
  AllZip-past (suc k) [] (y ∷ ys) past so = absurd (cc)
  AllZip-past (suc k) (x ∷ xs) [] past so = so
  AllZip-past (suc k) (x ∷ xs) (y ∷ ys) past so = (so.0, AllZip-past k xs ys (omega arith) so.1)

module _ {X : Type 0} (Q : X → X → Type 0) where
  -- Q holds of the values of two entries of an arena, and their spans are the same
  abbrev pub OnValues : X × Span → X × Span → Type 0
  OnValues before after = Q before.0 after.0 × (after.1 ≡ before.1)

  pub AllZipTo-with_value : (k j : ℕ) (old now : List (X × Span)) (x y : X) → j ≡ k → AllZipTo OnValues k old now → k < length old → value_at now j ≡ Some x → Q x y → AllZipTo OnValues (k + 1) old (with_value now j y)
  AllZipTo-with_value k j old now x y here so inside found holds =
      let found' : value_at now k ≡ Some x = subst (λ i. value_at now i ≡ Some x) here found in
      subst (λ i. AllZipTo OnValues (k + 1) old (with_value now i y)) (sym here)
      (AllZipTo-more OnValues k old now (x, span_at now k) (y, span_at now k) so inside (entry_read now k x (x, span_at now k) found') (holds, refl))
