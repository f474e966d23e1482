-- Floats with the same text have the same parts.
use Rattle.std.proofs.Common.{◌≡◌, ◌≢◌, ◌∙◌, ◌⊎◌, inl, inr, ap, sym, refl, arith, ℕ, zero, suc, ◌+◌, ◌-◌, ◌*◌, ◌/◌, ◌%◌, ◌<◌, ◌≤◌, ◌^◌, List, [], ◌∷◌, ◌++◌, Bool, true, false, append_assoc, pos, negsuc}
use Rattle.std.specs.Prelude.{◌==◌, if◌then◌else◌, codes}
use Rattle.std.specs.Fmt.{decimal, digit_glyph}
use Rattle.std.proofs.Math.Nat.{pow-suc}
use Rattle.std.proofs.lemmas.Bool.{cases_lt, eq-eqb, ne_eqb, le-leb, le-ltb, lt-leb, lt-ltb}
use Rattle.std.proofs.lemmas.Fmt.{decimal_injective, hex_one_digit, signed_decimal_injective}
use Rattle.std.proofs.lemmas.List.{append_cancel_right}
use Rattle.std.proofs.lemmas.Nat.{div-add-mod', div_below, mod_below}
use Rattle.naga_wgsl.specs.Floats.{float_text, fraction_digits, fraction_text, leading_digits, magnitude_text, power_text, scaled_text, sign_text}
use Rattle.naga_wgsl.specs.declared.float.FloatParts.{FloatParts}
use Rattle.naga_wgsl.proofs.LeadingDigitsLemmas.{leading_digits-next, leading_digits-zero}

abbrev pub first_of : List ℕ → ℕ
first_of [] = 0
first_of (x ∷ xs) = x

abbrev pub rest_of : List ℕ → List ℕ
rest_of [] = []
rest_of (x ∷ xs) = xs

-- a digit is `0` to `9` or `a` to `f`
glyph-low : (d : ℕ) → d < 10 → digit_glyph false d ≡ 48 + d
glyph-low d low = ap (λ b. if b then 48 + d else 87 + d) (lt-ltb d 10 low)

glyph-high : (d : ℕ) → 10 ≤ d → digit_glyph false d ≡ 87 + d
glyph-high d high = ap (λ b. if b then 48 + d else 87 + d) (le-ltb d 10 high)

glyph-same-by : (d e : ℕ) → (d < 10) ⊎ (10 ≤ d) → (e < 10) ⊎ (10 ≤ e) → d < 16 → e < 16 → digit_glyph false d ≡ digit_glyph false e → d ≡ e
glyph-same-by d e (inl p) (inl q) m n same = omega (arith, same, glyph-low d p, glyph-low e q)
glyph-same-by d e (inl p) (inr q) m n same = omega (arith, same, glyph-low d p, glyph-high e q)
glyph-same-by d e (inr p) (inl q) m n same = omega (arith, same, glyph-high d p, glyph-low e q)
glyph-same-by d e (inr p) (inr q) m n same = omega (arith, same, glyph-high d p, glyph-high e q)

-- no digit is a `p`
no-p-by : (d : ℕ) → (d < 10) ⊎ (10 ≤ d) → d < 16 → digit_glyph false d ≢ 112
no-p-by d (inl p) m same = omega (arith, same, glyph-low d p)
no-p-by d (inr p) m same = omega (arith, same, glyph-high d p)

-- a number of one digit more begins with a digit
begins-small : (count a : ℕ) → 0 < a → a < 16 ^ suc count → a / 16 ^ count < 16
begins-small count a some below =
    let unit : 0 < 16 ^ count = omega (arith, some, below, pow-suc 16 count) in
    div_below a (16 ^ count) 16 unit (omega (arith, below, pow-suc 16 count))

begins : (count a : ℕ) (t : List ℕ) → 0 < a → a < 16 ^ suc count
    → leading_digits (suc count) a ++ t ≡ digit_glyph false (a / 16 ^ count) ∷ (leading_digits count (a % 16 ^ count) ++ t)
begins count a t some below =
    ap (λ front. front ++ t) (leading_digits-next count a some)
    ∙ ap (λ digit. (digit ++ leading_digits count (a % 16 ^ count)) ++ t) (hex_one_digit false (a / 16 ^ count) (begins-small count a some below))

-- what follows the digits of 0
begins-not : (count a : ℕ) (t : List ℕ) → a ≤ 0 → leading_digits (suc count) a ++ t ≡ t
begins-not count a t none = ap (λ front. front ++ t) (leading_digits-zero (suc count) a (omega (arith, none)))

digits-same-by : (count a b : ℕ) (x y : List ℕ) → a < 16 ^ suc count → b < 16 ^ suc count → (0 < a) ⊎ (a ≤ 0) → (0 < b) ⊎ (b ≤ 0)
    → ((c d : ℕ) → c < 16 ^ count → d < 16 ^ count → leading_digits count c ++ 112 ∷ x ≡ leading_digits count d ++ 112 ∷ y → (c ≡ d) × (x ≡ y))
    → leading_digits (suc count) a ++ 112 ∷ x ≡ leading_digits (suc count) b ++ 112 ∷ y → (a ≡ b) × (x ≡ y)
digits-same-by count a b x y m n (inr p) (inr q) later same =
    (omega (arith, p, q), ap rest_of (sym (begins-not count a (112 ∷ x) p) ∙ same ∙ begins-not count b (112 ∷ y) q))
digits-same-by count a b x y m n (inl p) (inr q) later same =
    absurd (no-p-by (a / 16 ^ count) (cases_lt (a / 16 ^ count) 10) (begins-small count a p m)
    (ap first_of (sym (begins count a (112 ∷ x) p m) ∙ same ∙ begins-not count b (112 ∷ y) q)))
digits-same-by count a b x y m n (inr p) (inl q) later same =
    absurd (no-p-by (b / 16 ^ count) (cases_lt (b / 16 ^ count) 10) (begins-small count b q n)
    (ap first_of (sym (begins count b (112 ∷ y) q n) ∙ sym same ∙ begins-not count a (112 ∷ x) p)))
digits-same-by count a b x y m n (inl p) (inl q) later same =
    let all = sym (begins count a (112 ∷ x) p m) ∙ same ∙ begins count b (112 ∷ y) q n in
    let unit : 0 < 16 ^ count = omega (arith, p, m, pow-suc 16 count) in
    let digit : a / 16 ^ count ≡ b / 16 ^ count =
    glyph-same-by (a / 16 ^ count) (b / 16 ^ count) (cases_lt (a / 16 ^ count) 10) (cases_lt (b / 16 ^ count) 10) (begins-small count a p m) (begins-small count b q n) (ap first_of all) in
    let rest = later (a % 16 ^ count) (b % 16 ^ count) (mod_below a (16 ^ count) unit) (mod_below b (16 ^ count) unit) (ap rest_of all) in
    let remainder : a % 16 ^ count ≡ b % 16 ^ count = rest.0 in (
      sym (div-add-mod' a (16 ^ count)) ∙ ap (λ d. d * 16 ^ count + a % 16 ^ count) digit ∙ ap (λ r. b / 16 ^ count * 16 ^ count + r) remainder ∙ div-add-mod' b (16 ^ count),
      rest.1,
    )

-- numbers with the same digits before a `p` are equal
digits-same : (count a b : ℕ) (x y : List ℕ) → a < 16 ^ count → b < 16 ^ count
    → leading_digits count a ++ 112 ∷ x ≡ leading_digits count b ++ 112 ∷ y → (a ≡ b) × (x ≡ y)
digits-same zero a b x y m n same = (omega (arith, m, n), ap rest_of same)
digits-same (suc count) a b x y m n same =
    digits-same-by count a b x y m n (cases_lt 0 a) (cases_lt 0 b) (λ c d. digits-same count c d x y) same

fraction-none : (f : ℕ) (t : List ℕ) → f ≤ 0 → fraction_text f ++ t ≡ t
fraction-none f t none = ap (λ b. (if b then [] else (codes "." ++ fraction_digits f)) ++ t) (eq-eqb f 0 (omega (arith, none)))

fraction-some : (f : ℕ) (t : List ℕ) → 0 < f → fraction_text f ++ t ≡ 46 ∷ (fraction_digits f ++ t)
fraction-some f t some = ap (λ b. (if b then [] else (codes "." ++ fraction_digits f)) ++ t) (ne_eqb f 0 (λ e. omega (arith, some, e)))

fraction_digits-same : (f g : ℕ) (x y : List ℕ) → f < 2 ^ 52 → g < 2 ^ 52 → fraction_digits f ++ 112 ∷ x ≡ fraction_digits g ++ 112 ∷ y → (f ≡ g) × (x ≡ y)
unfolding fraction_digits
fraction_digits-same f g x y m n same = digits-same 13 f g x y m n same

fraction-same-by : (f g : ℕ) (x y : List ℕ) → f < 2 ^ 52 → g < 2 ^ 52 → (0 < f) ⊎ (f ≤ 0) → (0 < g) ⊎ (g ≤ 0)
    → fraction_text f ++ 112 ∷ x ≡ fraction_text g ++ 112 ∷ y → (f ≡ g) × (x ≡ y)
fraction-same-by f g x y m n (inr p) (inr q) same =
    (omega (arith, p, q), ap rest_of (sym (fraction-none f (112 ∷ x) p) ∙ same ∙ fraction-none g (112 ∷ y) q))
fraction-same-by f g x y m n (inl p) (inr q) same =
    absurd (omega (arith, ap first_of (sym (fraction-some f (112 ∷ x) p) ∙ same ∙ fraction-none g (112 ∷ y) q)))
fraction-same-by f g x y m n (inr p) (inl q) same =
    absurd (omega (arith, ap first_of (sym (fraction-none f (112 ∷ x) p) ∙ same ∙ fraction-some g (112 ∷ y) q)))
fraction-same-by f g x y m n (inl p) (inl q) same =
    fraction_digits-same f g x y m n (ap rest_of (sym (fraction-some f (112 ∷ x) p) ∙ same ∙ fraction-some g (112 ∷ y) q))

power-up : (bias e : ℕ) → bias ≤ e → power_text bias e ≡ decimal (e - bias)
power-up bias e up = ap (λ b. if b then decimal (e - bias) else (codes "-" ++ decimal (bias - e))) (le-leb bias e up)

power-down : (bias e : ℕ) → e < bias → power_text bias e ≡ 45 ∷ decimal (bias - e)
power-down bias e down = ap (λ b. if b then decimal (e - bias) else (codes "-" ++ decimal (bias - e))) (lt-leb bias e down)

-- no natural number is written with a sign
no-sign : (m n : ℕ) → m < 2 ^ 32 → n < 2 ^ 32 → 0 < n → decimal m ≢ 45 ∷ decimal n
no-sign m n few fewer some same =
    let last : suc (n - 1) ≡ n = omega (arith, some) in
    let equal = signed_decimal_injective (pos m) (negsuc (n - 1)) (omega (arith, few)) (omega (arith, fewer)) (same ∙ ap (λ k. 45 ∷ decimal k) (sym last)) in
    cc

power-same-by : (bias e g : ℕ) → bias < 2 ^ 30 → e < 2 ^ 31 → g < 2 ^ 31 → (e < bias) ⊎ (bias ≤ e) → (g < bias) ⊎ (bias ≤ g)
    → power_text bias e ≡ power_text bias g → e ≡ g
power-same-by bias e g k m n (inr p) (inr q) same =
    let equal = decimal_injective (e - bias) (g - bias) (omega (arith, m)) (omega (arith, n)) (sym (power-up bias e p) ∙ same ∙ power-up bias g q) in
    omega (arith, equal, p, q)
power-same-by bias e g k m n (inl p) (inl q) same =
    let equal = decimal_injective (bias - e) (bias - g) (omega (arith, k)) (omega (arith, k)) (ap rest_of (sym (power-down bias e p) ∙ same ∙ power-down bias g q)) in
    omega (arith, equal, p, q)
power-same-by bias e g k m n (inr p) (inl q) same =
    absurd (no-sign (e - bias) (bias - g) (omega (arith, m)) (omega (arith, k)) (omega (arith, q)) (sym (power-up bias e p) ∙ same ∙ power-down bias g q))
power-same-by bias e g k m n (inl p) (inr q) same =
    absurd (no-sign (g - bias) (bias - e) (omega (arith, n)) (omega (arith, k)) (omega (arith, p)) (sym (power-up bias g q) ∙ sym same ∙ power-down bias e p))

-- what follows the first digit
abbrev pub behind : (bias e f : ℕ) (s : List ℕ) → List ℕ
behind bias e f s = fraction_text f ++ 112 ∷ (power_text bias e ++ s)

behind-same : (bias e f g h : ℕ) (s : List ℕ) → bias < 2 ^ 30 → e < 2 ^ 31 → g < 2 ^ 31 → f < 2 ^ 52 → h < 2 ^ 52
    → behind bias e f s ≡ behind bias g h s → (e ≡ g) × (f ≡ h)
behind-same bias e f g h s k m n i j same =
    let parts = fraction-same-by f h (power_text bias e ++ s) (power_text bias g ++ s) i j (cases_lt 0 f) (cases_lt 0 h) same in
    (power-same-by bias e g k m n (cases_lt e bias) (cases_lt g bias) (append_cancel_right (power_text bias e) (power_text bias g) s parts.1), parts.0)

scaled-is : (bias e f c : ℕ) (s : List ℕ) → scaled_text bias e f (c ∷ []) ++ s ≡ 48 ∷ 120 ∷ c ∷ behind bias e f s
scaled-is bias e f c s = ap (λ t. 48 ∷ 120 ∷ c ∷ t) (append_assoc (fraction_text f) (112 ∷ power_text bias e) s)

-- the three forms of a float: 0, with the least exponent, and with another one
abbrev pub Forms : (e f : ℕ) → Type 0
Forms e f = ((e ≤ 0) × (f ≤ 0)) ⊎ (((e ≤ 0) × (0 < f)) ⊎ (0 < e))

forms-by : (e f : ℕ) → (0 < e) ⊎ (e ≤ 0) → (0 < f) ⊎ (f ≤ 0) → Forms e f
forms-by e f (inl p) q = inr (inr p)
forms-by e f (inr p) (inl q) = inr (inl (p, q))
forms-by e f (inr p) (inr q) = inl (p, q)

pub forms : (e f : ℕ) → Forms e f
forms e f = forms-by e f (cases_lt 0 e) (cases_lt 0 f)

abbrev chosen : (bias e f : ℕ) (is-zero is-least : Bool) → List ℕ
chosen bias e f is-zero is-least =
    if is-zero then codes "0.0" else (if is-least then scaled_text bias 1 f (codes "0") else scaled_text bias e f (codes "1"))

pub zero-is : (bias e f : ℕ) (s : List ℕ) → e ≤ 0 → f ≤ 0 → magnitude_text bias e f ++ s ≡ 48 ∷ 46 ∷ 48 ∷ s
zero-is bias e f s p q = ap (λ b. chosen bias e f b (e == 0) ++ s) (eq-eqb (e + f) 0 (omega (arith, p, q)))

pub least-is : (bias e f : ℕ) (s : List ℕ) → e ≤ 0 → 0 < f → magnitude_text bias e f ++ s ≡ 48 ∷ 120 ∷ 48 ∷ behind bias 1 f s
least-is bias e f s p q =
    ap (λ b. chosen bias e f b (e == 0) ++ s) (ne_eqb (e + f) 0 (λ z. omega (arith, q, z)))
    ∙ ap (λ b. chosen bias e f false b ++ s) (eq-eqb e 0 (omega (arith, p)))
    ∙ scaled-is bias 1 f 48 s

pub normal-is : (bias e f : ℕ) (s : List ℕ) → 0 < e → magnitude_text bias e f ++ s ≡ 48 ∷ 120 ∷ 49 ∷ behind bias e f s
normal-is bias e f s p =
    ap (λ b. chosen bias e f b (e == 0) ++ s) (ne_eqb (e + f) 0 (λ z. omega (arith, p, z)))
    ∙ ap (λ b. chosen bias e f false b ++ s) (ne_eqb e 0 (λ z. omega (arith, p, z)))
    ∙ scaled-is bias e f 49 s

-- the second character and the third one
abbrev second_of : List ℕ → ℕ
second_of t = first_of (rest_of t)

abbrev third_of : List ℕ → ℕ
third_of t = first_of (rest_of (rest_of t))

magnitude-same-by : (bias e f g h : ℕ) (s : List ℕ) → bias < 2 ^ 30 → e < 2 ^ 31 → g < 2 ^ 31 → f < 2 ^ 52 → h < 2 ^ 52 → Forms e f → Forms g h
    → magnitude_text bias e f ++ s ≡ magnitude_text bias g h ++ s → (e ≡ g) × (f ≡ h)
magnitude-same-by bias e f g h s k m n i j (inl p) (inl q) same = (omega (arith, p.0, q.0), omega (arith, p.1, q.1))
magnitude-same-by bias e f g h s k m n i j (inl p) (inr (inl q)) same =
    absurd (omega (arith, ap second_of (sym (zero-is bias e f s p.0 p.1) ∙ same ∙ least-is bias g h s q.0 q.1)))
magnitude-same-by bias e f g h s k m n i j (inl p) (inr (inr q)) same =
    absurd (omega (arith, ap second_of (sym (zero-is bias e f s p.0 p.1) ∙ same ∙ normal-is bias g h s q)))
magnitude-same-by bias e f g h s k m n i j (inr (inl p)) (inl q) same =
    absurd (omega (arith, ap second_of (sym (least-is bias e f s p.0 p.1) ∙ same ∙ zero-is bias g h s q.0 q.1)))
magnitude-same-by bias e f g h s k m n i j (inr (inl p)) (inr (inl q)) same =
    let parts = behind-same bias 1 f 1 h s k (omega arith) (omega arith) i j (ap (λ t. rest_of (rest_of (rest_of t))) (sym (least-is bias e f s p.0 p.1) ∙ same ∙ least-is bias g h s q.0 q.1)) in
    (omega (arith, p.0, q.0), parts.1)
magnitude-same-by bias e f g h s k m n i j (inr (inl p)) (inr (inr q)) same =
    absurd (omega (arith, ap third_of (sym (least-is bias e f s p.0 p.1) ∙ same ∙ normal-is bias g h s q)))
magnitude-same-by bias e f g h s k m n i j (inr (inr p)) (inl q) same =
    absurd (omega (arith, ap second_of (sym (normal-is bias e f s p) ∙ same ∙ zero-is bias g h s q.0 q.1)))
magnitude-same-by bias e f g h s k m n i j (inr (inr p)) (inr (inl q)) same =
    absurd (omega (arith, ap third_of (sym (normal-is bias e f s p) ∙ same ∙ least-is bias g h s q.0 q.1)))
magnitude-same-by bias e f g h s k m n i j (inr (inr p)) (inr (inr q)) same =
    behind-same bias e f g h s k m n i j (ap (λ t. rest_of (rest_of (rest_of t))) (sym (normal-is bias e f s p) ∙ same ∙ normal-is bias g h s q))

-- a float without its sign begins with the digit 0
first-by : (bias e f : ℕ) (s : List ℕ) → Forms e f → first_of (magnitude_text bias e f ++ s) ≡ 48
first-by bias e f s (inl p) = ap first_of (zero-is bias e f s p.0 p.1)
first-by bias e f s (inr (inl p)) = ap first_of (least-is bias e f s p.0 p.1)
first-by bias e f s (inr (inr p)) = ap first_of (normal-is bias e f s p)

pub first-magnitude : (bias e f : ℕ) (s : List ℕ) → first_of (magnitude_text bias e f ++ s) ≡ 48
first-magnitude bias e f s = first-by bias e f s (forms e f)

sign-same : (x y : Bool) (s t : List ℕ) → first_of s ≡ 48 → first_of t ≡ 48 → sign_text x ++ s ≡ sign_text y ++ t → (x ≡ y) × (s ≡ t)
sign-same true true s t p q same = (refl, ap rest_of same)
sign-same false false s t p q same = (refl, same)
sign-same true false s t p q same = absurd (omega (arith, q, ap first_of same))
sign-same false true s t p q same = absurd (omega (arith, p, ap first_of same))

-- floats with the same text have the same sign, exponent and fraction
pub float_text-same : (bias : ℕ) (one other : FloatParts) (s : List ℕ) → bias < 2 ^ 30 → one.exponent < 2 ^ 31 → other.exponent < 2 ^ 31
    → one.fraction < 2 ^ 52 → other.fraction < 2 ^ 52 → float_text bias one s ≡ float_text bias other s
    → (one.is_negative ≡ other.is_negative) × (one.exponent ≡ other.exponent) × (one.fraction ≡ other.fraction)
float_text-same bias one other s k m n i j same =
    let signs = sign-same one.is_negative other.is_negative (magnitude_text bias one.exponent one.fraction ++ s) (magnitude_text bias other.exponent other.fraction ++ s)
    (first-magnitude bias one.exponent one.fraction s) (first-magnitude bias other.exponent other.fraction s) same in
    let parts = magnitude-same-by bias one.exponent one.fraction other.exponent other.fraction s k m n i j
    (forms one.exponent one.fraction) (forms other.exponent other.fraction) signs.1 in
    (signs.0, parts.0, parts.1)
