-- Lists whose elements are related one by one, and lists whose elements are replaced one after another.
use Rattle.std.proofs.Common.{◌≡◌, ◌∙◌, sym, ap, subst, refl, ℕ, zero, suc, ◌+◌, add-one, ◌<◌, ◌≤◌, List, [], ◌∷◌, map, length, get_or, Option, Some, arith}
use Rattle.std.proofs.Math.ListN.{set}
use Rattle.std.proofs.lemmas.Option.{slice_get-map}
use Rattle.std.specs.List.{All, AllZip}
use Rattle.std.specs.Option.{option_map}
use Rattle.std.specs.Prelude.{slice_get}
use Rattle.naga_arena.specs.Arena.{span_at, value_at, with_value}
use Rattle.naga_arena.specs.declared.span.Span.{Span}
use Rattle.naga_compact.proofs.MapValuesLemmas.{entry_read}

-- ---- at an index

module _ {X : Type 0} (R : X → X → Type 0) where
  -- what the relation keeps of an element holds at the same index of the second list
  pub AllZip-at : (P : Option X → Type 0) → ((x y : X) → R x y → P (Some x) → P (Some y)) → (xs ys : List X) → AllZip R xs ys → (k : ℕ) → P (slice_get xs k) → P (slice_get ys k)
  AllZip-at P keeps [] [] zip k here = here
  AllZip-at P keeps [] (y ∷ ys) zip k here = absurd zip
  AllZip-at P keeps (x ∷ xs) [] zip k here = absurd zip
  AllZip-at P keeps (x ∷ xs) (y ∷ ys) zip zero here = keeps x y zip.0 here
  AllZip-at P keeps (x ∷ xs) (y ∷ ys) zip (suc k) here = AllZip-at P keeps xs ys zip.1 k here

  -- the same of what is read from the elements
  pub AllZip-at_map : {Y : Type 0} (f : X → Y) (P : Option Y → Type 0) → ((x y : X) → R x y → P (Some (f x)) → P (Some (f y))) → (xs ys : List X) → AllZip R xs ys → (k : ℕ) → P (slice_get (map f xs) k) → P (slice_get (map f ys) k)
  AllZip-at_map f P keeps xs ys zip k here =
      subst P (sym (slice_get-map f ys k))
      (AllZip-at (λ found. P (option_map f found)) keeps xs ys zip k (subst P (slice_get-map f xs k) here))

-- ---- one after another

-- the elements before the index are replaced by related ones
abbrev pub ReplacedTo : {X : Type 0} → (X → X → Type 0) → ℕ → List X → List X → Type 0
ReplacedTo R zero old now = now ≡ old
ReplacedTo R (suc k) [] now = now ≡ []
ReplacedTo R (suc k) (x ∷ xs) [] = ⊥
ReplacedTo R (suc k) (x ∷ xs) (y ∷ ys) = R x y × ReplacedTo R k xs ys

module _ {X : Type 0} (R : X → X → Type 0) where
  pub ReplacedTo-length : (k : ℕ) (old now : List X) → ReplacedTo R k old now → length now ≡ length old
  ReplacedTo-length zero old now so = ap length so
  ReplacedTo-length (suc k) [] now so = ap length so
  ReplacedTo-length (suc k) (x ∷ xs) [] so = absurd so
  ReplacedTo-length (suc k) (x ∷ xs) (y ∷ ys) so = ap suc (ReplacedTo-length k xs ys so.1)

  -- the element at the index is not replaced
  ReplacedTo-same : (k : ℕ) (old now : List X) (d : X) → ReplacedTo R k old now → get_or now k d ≡ get_or old k d
  ReplacedTo-same zero old now d so = ap (λ xs. get_or xs zero d) so
  ReplacedTo-same (suc k) [] now d so = ap (λ xs. get_or xs (suc k) d) so
  ReplacedTo-same (suc k) (x ∷ xs) [] d so = absurd so
  ReplacedTo-same (suc k) (x ∷ xs) (y ∷ ys) d so = ReplacedTo-same k xs ys d so.1

  ReplacedTo-suc : (k : ℕ) (old now : List X) (x y : X) → ReplacedTo R k old now → k < length old → x ≡ get_or now k x → R x y → ReplacedTo R (suc k) old (set now k y)
  ReplacedTo-suc zero [] now x y so inside is related = absurd (omega arith)
  ReplacedTo-suc zero (z ∷ zs) now x y so inside is related =
      let same : x ≡ z = is ∙ ap (λ xs. get_or xs zero x) so in
      subst (λ xs. ReplacedTo R (suc zero) (z ∷ zs) (set xs zero y)) (sym so) (subst (λ v. R v y) same related, refl)
  ReplacedTo-suc (suc k) [] now x y so inside is related = absurd (omega arith)
  ReplacedTo-suc (suc k) (z ∷ zs) [] x y so inside is related = absurd so
  ReplacedTo-suc (suc k) (z ∷ zs) (w ∷ ws) x y so inside is related =
      (so.0, ReplacedTo-suc k zs ws x y so.1 (omega arith) is related)

  pub ReplacedTo-next : (k : ℕ) (old now : List X) (x y : X) → ReplacedTo R k old now → k < length old → x ≡ get_or now k x → R x y → ReplacedTo R (k + 1) old (set now k y)
  ReplacedTo-next k old now x y so inside is related =
      subst (λ n. ReplacedTo R n old (set now k y)) (sym (add-one k)) (ReplacedTo-suc k old now x y so inside is related)

  pub ReplacedTo-end : (k : ℕ) (old now : List X) → length old ≤ k → ReplacedTo R k old now → AllZip R old now
  ReplacedTo-end zero [] now past so = subst (AllZip R []) (sym so) tt
  ReplacedTo-end zero (x ∷ xs) now past so = absurd (omega arith)
  ReplacedTo-end (suc k) [] now past so = subst (AllZip R []) (sym so) tt
  ReplacedTo-end (suc k) (x ∷ xs) [] past so = absurd so
  ReplacedTo-end (suc k) (x ∷ xs) (y ∷ ys) past so = (so.0, ReplacedTo-end k xs ys (omega arith) so.1)

  -- what holds of all old elements holds of the one at the index
  pub ReplacedTo-All : (P : X → Type 0) (k : ℕ) (old now : List X) (x : X) → All P old → ReplacedTo R k old now → k < length old → x ≡ get_or now k x → P x
  ReplacedTo-All P k old now x all so inside is =
      subst P (sym (is ∙ ReplacedTo-same k old now x so)) (all k x inside)

-- ---- the values of an arena, one after another

module _ {X : Type 0} (R : X × Span → X × Span → Type 0) (k j : ℕ) (old now : List (X × Span)) (x : X) (here : j ≡ k) (so : ReplacedTo R k old now) (inside : k < length old) (found : value_at now j ≡ Some x) where
  entry : (x, span_at now k) ≡ get_or now k (x, span_at now k)
  entry = entry_read now k x (x, span_at now k) (subst (λ i. value_at now i ≡ Some x) here found)

  pub ReplacedTo-with_value : (y : X) → R (x, span_at now k) (y, span_at now k) → ReplacedTo R (k + 1) old (with_value now j y)
  ReplacedTo-with_value y related =
      subst (λ i. ReplacedTo R (k + 1) old (with_value now i y)) (sym here)
      (ReplacedTo-next R k old now (x, span_at now k) (y, span_at now k) so inside entry related)

  pub ReplacedTo-All_value : (P : X × Span → Type 0) → All P old → P (x, span_at now k)
  ReplacedTo-All_value P all = ReplacedTo-All R P k old now (x, span_at now k) all so inside entry
