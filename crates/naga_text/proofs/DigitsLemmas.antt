-- The hexadecimal digits of a number, one after another, and how many they are.
use Rattle.std.proofs.Common.{◌≡◌, ◌≢◌, ◌∙◌, ◌⊎◌, inl, inr, ap, sym, refl, arith, ℕ, zero, suc, ◌/◌, ◌%◌, ◌<◌, ◌≤◌, ◌^◌, ◌+◌, List, [], ◌∷◌, ◌++◌, length, Bool, true, false}
use Rattle.std.specs.Prelude.{◌==◌, if◌then◌else◌}
use Rattle.std.specs.Fmt.{digit_glyph, digits, digits_onto}
use Rattle.std.proofs.Math.Nat.{pow-suc}
use Rattle.std.proofs.lemmas.Bool.{cases_order, eq-eqb, ne_eqb}
use Rattle.std.proofs.lemmas.List.{append_assoc, length-append}
use Rattle.std.proofs.lemmas.Fmt.{hex_one_digit}

-- the digit at the end of a number
abbrev last_of : ℕ → ℕ
last_of n = digit_glyph false (n % 16)

-- one turn, for what the turns after it write
abbrev turn : ℕ → (here later : List ℕ) → List ℕ
turn n here later = if n / 16 == 0 then here else later

turn-after : (n : ℕ) (b : Bool) (here later all after : List ℕ) → all ≡ later ++ after
    → (if b then here ++ after else all) ≡ (if b then here else later) ++ after
turn-after n true here later all after same = refl
turn-after n false here later all after same = same

-- what follows the digits comes after them
digits_onto-after : (k n : ℕ) (after : List ℕ) → digits_onto k 16 false n after ≡ digits_onto k 16 false n [] ++ after
digits_onto-after zero n after = refl
digits_onto-after (suc k) n after =
    turn-after n (n / 16 == 0) (last_of n ∷ []) (digits_onto k 16 false (n / 16) (last_of n ∷ [])) (digits_onto k 16 false (n / 16) (last_of n ∷ after)) after
    (digits_onto-after k (n / 16) (last_of n ∷ after)
    ∙ sym (append_assoc (digits_onto k 16 false (n / 16) []) (last_of n ∷ []) after)
    ∙ ap (λ front. front ++ after) (sym (digits_onto-after k (n / 16) (last_of n ∷ []))))

-- one more turn makes no difference if the number has no more digits
digits_onto-turns : (k n : ℕ) (after : List ℕ) → n < 16 ^ suc k → digits_onto (suc (suc k)) 16 false n after ≡ digits_onto (suc k) 16 false n after
digits_onto-turns zero n after small =
    let one : n / 16 ≡ 0 = omega (arith, small) in
    let is = eq-eqb (n / 16) 0 one in
    ap (λ b. if b then last_of n ∷ after else digits_onto 1 16 false (n / 16) (last_of n ∷ after)) is
    ∙ sym (ap (λ b. if b then last_of n ∷ after else (last_of n ∷ after)) is)
digits_onto-turns (suc k) n after small =
    ap (λ later. turn n (last_of n ∷ after) later) (digits_onto-turns k (n / 16) (last_of n ∷ after) (omega (arith, small, pow-suc 16 (suc k))))

-- the digits of a number that has more than one: those of its sixteenth, and the last one
pub digits-step : (n : ℕ) → 16 ≤ n → n < 2 ^ 32 → digits 16 false n ≡ digits 16 false (n / 16) ++ digit_glyph false (n % 16) ∷ []
unfolding digits
digits-step n more small =
    let some : n / 16 ≢ 0 = λ e. omega (arith, more, e) in
    let few : n / 16 < 16 ^ 63 = omega (arith, small) in
    ap (λ b. if b then last_of n ∷ [] else digits_onto 63 16 false (n / 16) (last_of n ∷ [])) (ne_eqb (n / 16) 0 some)
    ∙ digits_onto-after 63 (n / 16) (last_of n ∷ [])
    ∙ ap (λ front. front ++ last_of n ∷ []) (sym (digits_onto-turns 62 (n / 16) [] few))

-- the length of the digits of a number that has more than one
length-step : (n k : ℕ) → 16 ≤ n → n < 2 ^ 32 → length (digits 16 false (n / 16)) ≤ k → length (digits 16 false n) ≤ suc k
length-step n k many small rest =
    omega (arith, ap length (digits-step n many small), length-append (digits 16 false (n / 16)) (last_of n ∷ []), rest)

length-by : (k n : ℕ) → (n ≡ 16) ⊎ ((n < 16) ⊎ (16 < n)) → n < 16 ^ suc k → n < 2 ^ 32 → length (digits 16 false n) ≤ suc k
length-by k n (inr (inl few)) below small = omega (arith, ap length (hex_one_digit false n few))
length-by zero n (inl e) below small = absurd (omega (arith, e, below))
length-by zero n (inr (inr many)) below small = absurd (omega (arith, many, below))
length-by (suc j) n (inl e) below small =
    length-step n (suc j) (omega (arith, e)) small
    (length-by j (n / 16) (cases_order (n / 16) 16) (omega (arith, below, pow-suc 16 (suc j))) (omega (arith, small)))
length-by (suc j) n (inr (inr many)) below small =
    length-step n (suc j) (omega (arith, many)) small
    (length-by j (n / 16) (cases_order (n / 16) 16) (omega (arith, below, pow-suc 16 (suc j))) (omega (arith, small)))

-- a number below a power of sixteen has no more digits than that
pub length-digits-le : (k n : ℕ) → n < 16 ^ suc k → n < 2 ^ 32 → length (digits 16 false n) ≤ suc k
length-digits-le k n = length-by k n (cases_order n 16)
