-- Lists whose first elements are replaced by related ones.
use Rattle.std.proofs.Common.{◌≡◌, ap, arith, refl, subst, sym, ℕ, zero, suc, ◌+◌, ◌<◌, add-one, List, [], ◌∷◌, Some, drop, get_or, length, map, take}
use Rattle.std.specs.List.{AllZip}
use Rattle.std.specs.Prelude.{slice_get}
use Rattle.naga_arena.specs.Arena.{span_at, value_at}
use Rattle.naga_arena.specs.declared.span.Span.{Span}
use Rattle.naga_compact.proofs.AllZipLemmas.{ReplacedTo}
use Rattle.naga_compact.proofs.MapValuesLemmas.{entry_read}
use Rattle.naga_bounds.specs.RestrictedModules.{AreChangedTo}

module _ {X : Type 0} (R : X → X → Type 0) where
  -- what is read of the element at the index is not replaced
  pub ReplacedTo-read : {Y : Type 0} (f : X → Y) (k : ℕ) (old now : List X) → ReplacedTo R k old now
      → slice_get (map f now) k ≡ slice_get (map f old) k
  ReplacedTo-read f zero old now so = ap (λ xs. slice_get (map f xs) zero) so
  ReplacedTo-read f (suc k) [] now so = ap (λ xs. slice_get (map f xs) (suc k)) so
  ReplacedTo-read f (suc k) (x ∷ xs) [] so = absurd so
  ReplacedTo-read f (suc k) (x ∷ xs) (y ∷ ys) so = ReplacedTo-read f k xs ys so.1

  ReplacedTo-kept_suc : (k : ℕ) (old now : List X) (d : X) → ReplacedTo R k old now → k < length old
      → R (get_or now k d) (get_or now k d) → ReplacedTo R (suc k) old now
  ReplacedTo-kept_suc zero [] now d so inside related = absurd (omega arith)
  ReplacedTo-kept_suc zero (z ∷ zs) now d so inside related =
      subst (λ xs. ReplacedTo R (suc zero) (z ∷ zs) xs) (sym so)
      (subst (λ xs. R (get_or xs zero d) (get_or xs zero d)) so related, refl)
  ReplacedTo-kept_suc (suc k) [] now d so inside related = absurd (omega arith)
  ReplacedTo-kept_suc (suc k) (z ∷ zs) [] d so inside related = absurd so
  ReplacedTo-kept_suc (suc k) (z ∷ zs) (w ∷ ws) d so inside related =
      (so.0, ReplacedTo-kept_suc k zs ws d so.1 (omega arith) related)

  -- the element at the index stays, and is related to itself
  pub ReplacedTo-kept : (k : ℕ) (old now : List X) (d : X) → ReplacedTo R k old now → k < length old
      → R (get_or now k d) (get_or now k d) → ReplacedTo R (k + 1) old now
  ReplacedTo-kept k old now d so inside related =
      subst (λ n. ReplacedTo R n old now) (sym (add-one k)) (ReplacedTo-kept_suc k old now d so inside related)

  ReplacedTo-first : (k : ℕ) (old now : List X) → ReplacedTo R k old now → AllZip R (take k old) (take k now)
  ReplacedTo-first zero old now so = tt
  ReplacedTo-first (suc k) [] now so = subst (λ xs. AllZip R [] (take (suc k) xs)) (sym so) tt
  ReplacedTo-first (suc k) (x ∷ xs) [] so = absurd so
  ReplacedTo-first (suc k) (x ∷ xs) (y ∷ ys) so = (so.0, ReplacedTo-first k xs ys so.1)

  ReplacedTo-rest : (k : ℕ) (old now : List X) → ReplacedTo R k old now → drop k now ≡ drop k old
  ReplacedTo-rest zero old now so = so
  ReplacedTo-rest (suc k) [] now so = ap (drop (suc k)) so
  ReplacedTo-rest (suc k) (x ∷ xs) [] so = absurd so
  ReplacedTo-rest (suc k) (x ∷ xs) (y ∷ ys) so = ReplacedTo-rest k xs ys so.1

  pub ReplacedTo-AreChangedTo : (k : ℕ) (old now : List X) → ReplacedTo R k old now → AreChangedTo R k old now
  ReplacedTo-AreChangedTo k old now so =
      record { first = ReplacedTo-first k old now so; rest = ReplacedTo-rest k old now so }

  -- all elements are replaced
  pub AllZip-ReplacedTo : (old now : List X) → AllZip R old now → ReplacedTo R (length old) old now
  AllZip-ReplacedTo [] [] zip = refl
  AllZip-ReplacedTo [] (y ∷ ys) zip = absurd zip
  AllZip-ReplacedTo (x ∷ xs) [] zip = absurd zip
  AllZip-ReplacedTo (x ∷ xs) (y ∷ ys) zip = (zip.0, AllZip-ReplacedTo xs ys zip.1)

-- the value of an arena at the index stays, and is related to itself
pub ReplacedTo-kept_value : {X : Type 0} (R : X × Span → X × Span → Type 0) (k j : ℕ) (old now : List (X × Span)) (x : X) → j ≡ k
    → ReplacedTo R k old now → k < length old → value_at now j ≡ Some x → R (x, span_at now k) (x, span_at now k)
    → ReplacedTo R (k + 1) old now
ReplacedTo-kept_value R k j old now x here so inside found related =
    let at : value_at now k ≡ Some x = subst (λ i. value_at now i ≡ Some x) here found in
    ReplacedTo-kept R k old now (x, span_at now k) so inside
    (subst (λ entry. R entry entry) (entry_read now k x (x, span_at now k) at) related)
