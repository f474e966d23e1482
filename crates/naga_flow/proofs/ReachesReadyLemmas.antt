-- Whether a chain of bases ends in what is ready.
use Rattle.std.proofs.Common.{◌≡◌, ◌∙◌, ap, refl, ℕ, zero, suc, ◌<◌, Bool, true, Option, Some, None, arith}
use Rattle.std.proofs.lemmas.Bool.Decides.{nat_tests}
use Rattle.std.specs.Prelude.{◌||◌, nat_lt, option_map}
use Rattle.naga_flow.specs.Readings.{passes, reaches_ready}

-- a renumbering of what is kept changes nothing
module _ (kept : ℕ → Bool) (f : ℕ → ℕ) (is_ready is_ready' : ℕ → Bool) (base base' : ℕ → Option ℕ)
    (ready-moved : (x : ℕ) → kept x ≡ true → is_ready' (f x) ≡ is_ready x)
    (base-moved : (x : ℕ) → kept x ≡ true → base' (f x) ≡ option_map f (base x))
    (base-kept : (x y : ℕ) → kept x ≡ true → base x ≡ Some y → (kept y ≡ true) × (y < x))
    (grows : (x y : ℕ) → kept x ≡ true → x < y → f x < f y) where
  pub reaches_ready-moved : (k l x : ℕ) → kept x ≡ true → x < k → f x < l → reaches_ready is_ready' base' l (f x) ≡ reaches_ready is_ready base k x
  reaches_ready-moved zero l x so less less' = absurd (omega (arith, less))
  reaches_ready-moved (suc k) zero x so less less' = absurd (omega (arith, less'))
  reaches_ready-moved (suc k) (suc l) x so less less' =
      (λ i. ready-moved x so i || passes (reaches_ready is_ready' base' l) (base-moved x so i))
      ∙ ap (λ t. is_ready x || t)
      (go (λ y member before. let above = grows y x member before in reaches_ready-moved k l y member (omega (arith, less, before)) (omega (arith, less', above))) (base x) refl)
    where
      go : ((y : ℕ) → kept y ≡ true → y < x → reaches_ready is_ready' base' l (f y) ≡ reaches_ready is_ready base k y) → (found : Option ℕ) → base x ≡ found →
          passes (reaches_ready is_ready' base' l) (option_map f found) ≡ passes (reaches_ready is_ready base k) found
      go later None is = refl
      go later (Some y) is = let both = base-kept x y so is in later y both.0 both.1

same_again : (value : Option ℕ) → value ≡ option_map (λ x. x) value
same_again None = refl
same_again (Some x) = refl

-- nor do more steps than there are, where the first bases come before
pub reaches_ready-stable : (is_ready : ℕ → Bool) (base : ℕ → Option ℕ) (count : ℕ) → ((x y : ℕ) → x < count → base x ≡ Some y → y < x)
    → (k l x : ℕ) → x < count → x < k → x < l → reaches_ready is_ready base l x ≡ reaches_ready is_ready base k x
reaches_ready-stable is_ready base count before k l x within less less' =
    reaches_ready-moved (λ y. nat_lt y count) (λ y. y) is_ready is_ready base base (λ y so. refl) (λ y so. same_again (base y))
    base-within (λ y z so earlier. earlier) k l x (grind (arith, nat_tests)) less less'
  where
    base-within : (y z : ℕ) → nat_lt y count ≡ true → base y ≡ Some z → (nat_lt z count ≡ true) × (z < y)
    base-within y z so is =
        let inside : y < count = grind (arith, nat_tests) in
        let earlier : z < y = before y z inside is in
        (grind (arith, nat_tests), earlier)
