-- Lists of which no two values are equal: every value has only one handle.
use Rattle.std.proofs.Common.{◌≡◌, ℕ, ◌<◌, Bool, true, false, List, get_or, position, Some, refl, ap, sym, ◌∙◌, arith, true≢false}
use Rattle.std.specs.Cmp.{IsEquivalence}
use Rattle.std.specs.List.{IsDistinct, slice_get}
use Rattle.std.proofs.lemmas.Bool.Decides.{nat_tests}
use Rattle.std.proofs.lemmas.List.Sums.{position_or_len_is}
use Rattle.std.proofs.lemmas.Map.Keys.{apart_from_distinct}
use Rattle.std.proofs.lemmas.Option.{slice_get_within, slice_get-get_or, get_or_from_slice_get}

module _ {T : Type 0} {eq : T → T → Bool} (laws : IsEquivalence eq) (xs : List T) (distinct : IsDistinct eq xs) where
  -- of two handles with equal values, the first is not below the second
  IsDistinct-apart : (i j : ℕ) (x y : T) → slice_get xs i ≡ Some x → slice_get xs j ≡ Some y → eq x y ≡ true → i < j → ⊥
  IsDistinct-apart i j x y at_i at_j same before =
      let other : eq x y ≡ false =
      ap (λ a. eq a y) (sym (get_or_from_slice_get xs i x x at_i)) ∙ ap (eq (get_or xs i x)) (sym (get_or_from_slice_get xs j y x at_j))
      ∙ apart_from_distinct eq xs i j x distinct before (slice_get_within xs j y at_j) in
      true≢false (sym same ∙ other)

  -- handles with equal values are equal
  pub IsDistinct-one_handle : (i j : ℕ) (x y : T) → slice_get xs i ≡ Some x → slice_get xs j ≡ Some y → eq x y ≡ true → i ≡ j
  IsDistinct-one_handle i j x y at_i at_j same =
      let not_before = IsDistinct-apart i j x y at_i at_j same in
      let not_behind = IsDistinct-apart j i y x at_j at_i (laws.symm y x ∙ same) in
      omega (arith, not_before, not_behind)

  -- a value that is equal to the one at a handle is not equal to any earlier one
  IsDistinct-earlier : (i : ℕ) (x value : T) → slice_get xs i ≡ Some x → eq value x ≡ true → (k : ℕ) → k < i → eq value (get_or xs k x) ≡ false
  IsDistinct-earlier i x value at_i same k before = by (eq value (get_or xs k x)) refl
    where
      by : (b : Bool) → eq value (get_or xs k x) ≡ b → b ≡ false
      by false e = refl
      by true e =
          let within = slice_get_within xs i x at_i in
          let equal = sym (laws.congr value (get_or xs k x) x e) ∙ same in
          let one = IsDistinct-one_handle k i (get_or xs k x) x (slice_get-get_or xs k x (omega arith)) at_i equal in
          absurd (omega arith)

  -- therefore, a value that is equal to the one at a handle is found at that handle
  pub position-handle : (i : ℕ) (x value : T) → slice_get xs i ≡ Some x → eq value x ≡ true → position (eq value) xs ≡ Some i
  position-handle i x value at_i same =
      let within = slice_get_within xs i x at_i in
      let here : eq value (get_or xs i x) ≡ true = ap (eq value) (get_or_from_slice_get xs i x x at_i) ∙ same in
      let first = position_or_len_is (eq value) xs i x (omega arith) (IsDistinct-earlier i x value at_i same) (λ _. here) in
      rw first (grind (arith, nat_tests))
