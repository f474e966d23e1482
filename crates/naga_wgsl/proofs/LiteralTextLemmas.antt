-- Literals with the same text are equal.
use Rattle.std.proofs.Common.{◌≡◌, ◌≢◌, ◌∙◌, ◌⊎◌, inl, inr, ap, subst, sym, refl, arith, ℕ, ℤ, pos, negsuc, suc, ◌+◌, ◌-◌, ◌/◌, ◌%◌, ◌<◌, ◌≤◌, ◌^◌, List, [], ◌∷◌, ◌++◌, Bool, true, false, append_assoc}
use Rattle.std.specs.Prelude.{◌==◌, if◌then◌else◌, nat_le, nat_lt, codes, Result, Ok, Err}
use Rattle.std.specs.Fmt.{decimal, signed_decimal}
use Rattle.std.specs.Int.Signed.{mag}
use Rattle.std.specs.Ordering.{int_eq}
use Rattle.std.proofs.lemmas.Bool.{cases_lt, lt-ltb, ne_eqb}
use Rattle.std.proofs.lemmas.Fmt.{decimal_digit, decimal_step}
use Rattle.std.proofs.lemmas.List.{append-nil}
use Rattle.naga_ir.specs.declared.literal.Literal.{Literal}
use Rattle.naga_ir.specs.declared.literal.Literal.TheVariants.{F64, F32, F16, U16, I16, U32, I32, U64, I64, AbstractInt, AbstractFloat}
use Rattle.naga_ir.specs.declared.literal.Literal.TheVariants.{Bool as Truth}
use Rattle.naga_wgsl.specs.Floats.{float_text, fraction_text, is_finite, magnitude_text, parts_of_16, parts_of_32, parts_of_64, power_text, sign_text}
use Rattle.naga_wgsl.specs.Literals.{IsInRange, abstract_integer_text, i32_text, text_of_float, text_of_literal, truth_text}
use Rattle.naga_wgsl.specs.declared.float.FloatParts.{FloatParts}
use Rattle.naga_wgsl.specs.declared.write_error.Cause.{Cause}
use Rattle.naga_wgsl.specs.declared.write_error.Cause.TheVariants.{NotFinite}
use Rattle.naga_wgsl.proofs.FloatTextLemmas.{Forms, behind, first_of, forms, least-is, normal-is, zero-is}

-- the character at the end of a text
abbrev pub last_of : List ℕ → ℕ
last_of [] = 0
last_of (x ∷ []) = x
last_of (x ∷ (y ∷ ys)) = last_of (y ∷ ys)

pub last-append : (xs : List ℕ) (y : ℕ) → last_of (xs ++ y ∷ []) ≡ y
last-append [] y = refl
last-append (x ∷ []) y = refl
last-append (x ∷ (z ∷ zs)) y = last-append (z ∷ zs) y

-- What the first and the last character of a literal say about its type: the last one is that of the type's suffix,
-- but for the lowest `i32`, and 0 represents the types that have no concrete type.
abbrev pub mark_by : (first last : ℕ) → ℕ
mark_by first last = if last == 41 then (if nat_lt first 58 then 0 else 105) else (if nat_lt last 58 then 0 else last)

abbrev pub mark : List ℕ → ℕ
mark text = mark_by (first_of text) (last_of text)

abbrev pub mark_of : Literal → ℕ
mark_of (F64 bits) = 1
mark_of (F32 bits) = 102
mark_of (F16 bits) = 104
mark_of (U16 n) = 1
mark_of (I16 n) = 1
mark_of (U32 n) = 117
mark_of (I32 n) = 105
mark_of (U64 n) = 1
mark_of (I64 n) = 1
mark_of (Truth b) = 101
mark_of (AbstractInt n) = 0
mark_of (AbstractFloat bits) = 0

-- a text with a suffix has the mark of the suffix
mark-suffix : (text : List ℕ) (suffix : ℕ) → mark (text ++ suffix ∷ []) ≡ mark_by (first_of (text ++ suffix ∷ [])) suffix
mark-suffix text suffix = ap (λ last. mark_by (first_of (text ++ suffix ∷ [])) last) (last-append text suffix)

-- the last character is a decimal digit
pub record EndsInDigit (text : List ℕ) : Type 0 where
  pub front : List ℕ
  pub digit : ℕ
  pub below : digit < 10
  pub is : text ≡ front ++ (48 + digit) ∷ []

mark-digit : (first digit : ℕ) → digit < 10 → mark_by first (48 + digit) ≡ 0
mark-digit first digit below =
    ap (λ b. if b then (if nat_lt first 58 then 0 else 105) else (if nat_lt (48 + digit) 58 then 0 else (48 + digit))) (ne_eqb (48 + digit) 41 (λ e. omega (arith, e)))
    ∙ ap (λ b. if b then 0 else (48 + digit)) (lt-ltb (48 + digit) 58 (omega (arith, below)))

mark-ends : (text : List ℕ) → EndsInDigit text → mark text ≡ 0
mark-ends text ends =
    ap mark ends.is ∙ mark-suffix ends.front (48 + ends.digit) ∙ mark-digit (first_of (ends.front ++ (48 + ends.digit) ∷ [])) ends.digit ends.below

-- no text that ends in a digit ends in a parenthesis
pub last-ends : (text : List ℕ) → EndsInDigit text → last_of text ≢ 41
last-ends text ends same = omega (arith, same, ap last_of ends.is, last-append ends.front (48 + ends.digit))

ends-append : (xs ys : List ℕ) → EndsInDigit ys → EndsInDigit (xs ++ ys)
ends-append xs ys ends = record {
  front = xs ++ ends.front;
  digit = ends.digit;
  below = ends.below;
  is = ap (λ end. xs ++ end) ends.is ∙ sym (append_assoc xs ends.front ((48 + ends.digit) ∷ []));
}

ends-decimal-by : (n : ℕ) → n < 2 ^ 64 → (n < 10) ⊎ (10 ≤ n) → EndsInDigit (decimal n)
ends-decimal-by n small (inl few) = record { front = []; digit = n; below = few; is = decimal_digit n few }
ends-decimal-by n small (inr many) =
    let below : n % 10 < 10 = omega arith in
    record { front = decimal (n / 10); digit = n % 10; below = below; is = decimal_step n many small }

ends-decimal : (n : ℕ) → n < 2 ^ 64 → EndsInDigit (decimal n)
ends-decimal n small = ends-decimal-by n small (cases_lt n 10)

pub ends-signed : (n : ℤ) → mag n < 2 ^ 63 → EndsInDigit (signed_decimal n)
ends-signed (pos n) small = ends-decimal n (omega (arith, small))
ends-signed (negsuc n) small = ends-append (45 ∷ []) (decimal (suc n)) (ends-decimal (suc n) (omega (arith, small)))

ends-power-by : (bias e : ℕ) (b : Bool) → bias < 2 ^ 30 → e < 2 ^ 31 → EndsInDigit (if b then decimal (e - bias) else (codes "-" ++ decimal (bias - e)))
ends-power-by bias e true k m = ends-decimal (e - bias) (omega (arith, m))
ends-power-by bias e false k m = ends-append (45 ∷ []) (decimal (bias - e)) (ends-decimal (bias - e) (omega (arith, k)))

ends-behind : (bias e f c : ℕ) → bias < 2 ^ 30 → e < 2 ^ 31 → EndsInDigit (48 ∷ 120 ∷ c ∷ behind bias e f [])
ends-behind bias e f c k m =
    ends-append (48 ∷ 120 ∷ c ∷ []) (behind bias e f [])
    (ends-append (fraction_text f) (112 ∷ (power_text bias e ++ []))
    (ends-append (112 ∷ []) (power_text bias e ++ [])
    (subst EndsInDigit (sym (append-nil (power_text bias e))) (ends-power-by bias e (nat_le bias e) k m))))

ends-magnitude : (bias e f : ℕ) → bias < 2 ^ 30 → e < 2 ^ 31 → Forms e f → EndsInDigit (magnitude_text bias e f ++ [])
ends-magnitude bias e f k m (inl p) =
    subst EndsInDigit (sym (zero-is bias e f [] p.0 p.1)) (record { front = 48 ∷ 46 ∷ []; digit = 0; below = omega arith; is = refl })
ends-magnitude bias e f k m (inr (inl p)) =
    subst EndsInDigit (sym (least-is bias e f [] p.0 p.1)) (ends-behind bias 1 f 48 k (omega arith))
ends-magnitude bias e f k m (inr (inr p)) =
    subst EndsInDigit (sym (normal-is bias e f [] p)) (ends-behind bias e f 49 k m)

-- a literal has this text
abbrev pub said : List ℕ → Result (List ℕ) Cause
said text = Ok text

pub ok-same : (x y : List ℕ) → said x ≡ said y → x ≡ y
ok-same x y same = cc

abbrev finite : Bool → List ℕ → Result (List ℕ) Cause
finite b text = if b then Ok text else Err NotFinite

finite-by : (b : Bool) (x text : List ℕ) → finite b x ≡ said text → x ≡ text
finite-by true x text same = ok-same x text same
finite-by false x text same = cc

pub float-is : (bias : ℕ) (parts : FloatParts) (suffix text : List ℕ) → text_of_float bias parts suffix ≡ Ok text → float_text bias parts suffix ≡ text
float-is bias parts suffix text same = finite-by (is_finite bias parts) (float_text bias parts suffix) text same

-- a float with a suffix
mark-float : (bias : ℕ) (parts : FloatParts) (suffix : ℕ) (text : List ℕ) → text_of_float bias parts (suffix ∷ []) ≡ Ok text
    → mark text ≡ mark_by (first_of text) suffix
mark-float bias parts suffix text same =
    let whole = sign_text parts.is_negative ++ magnitude_text bias parts.exponent parts.fraction in
    let is : text ≡ whole ++ suffix ∷ [] =
    sym (float-is bias parts (suffix ∷ []) text same) ∙ sym (append_assoc (sign_text parts.is_negative) (magnitude_text bias parts.exponent parts.fraction) (suffix ∷ [])) in
    ap (λ last. mark_by (first_of text) last) (ap last_of is ∙ last-append whole suffix)

mark-i32 : (n : ℤ) (b : Bool) → mark (if b then codes "i32(-2147483648)" else (signed_decimal n ++ codes "i")) ≡ 105
mark-i32 n true = refl
mark-i32 n false = mark-suffix (signed_decimal n) 105

mark-abstract : (n : ℤ) (b : Bool) → mag n < 2 ^ 63 → mark (if b then codes "(-9223372036854775807 - 1)" else signed_decimal n) ≡ 0
mark-abstract n true small = refl
mark-abstract n false small = mark-ends (signed_decimal n) (ends-signed n small)

mark-truth : (b : Bool) → mark (truth_text b) ≡ 101
mark-truth true = refl
mark-truth false = refl

-- a literal has the mark of its type
pub mark-literal : (literal : Literal) (text : List ℕ) → IsInRange literal → text_of_literal literal ≡ Ok text → mark text ≡ mark_of literal
mark-literal (F64 bits) text small same = cc
mark-literal (F32 bits) text small same = mark-float 127 (parts_of_32 bits) 102 text same
mark-literal (F16 bits) text small same = mark-float 15 (parts_of_16 bits) 104 text same
mark-literal (U16 n) text small same = cc
mark-literal (I16 n) text small same = cc
mark-literal (U32 n) text small same = ap mark (sym (ok-same (decimal n ++ codes "u") text same)) ∙ mark-suffix (decimal n) 117
mark-literal (I32 n) text small same = ap mark (sym (ok-same (i32_text n) text same)) ∙ mark-i32 n (int_eq n (negsuc 2147483647))
mark-literal (U64 n) text small same = cc
mark-literal (I64 n) text small same = cc
mark-literal (Truth b) text small same = ap mark (sym (ok-same (truth_text b) text same)) ∙ mark-truth b
mark-literal (AbstractInt n) text small same =
    ap mark (sym (ok-same (abstract_integer_text n) text same)) ∙ mark-abstract n (int_eq n (negsuc 9223372036854775807)) small
mark-literal (AbstractFloat bits) text small same =
    let parts = parts_of_64 bits in
    let few : parts.exponent < 2 ^ 31 = omega arith in
    ap mark (sym (float-is 1023 parts [] text same))
    ∙ mark-ends (float_text 1023 parts [])
    (ends-append (sign_text parts.is_negative) (magnitude_text 1023 parts.exponent parts.fraction ++ [])
    (ends-magnitude 1023 parts.exponent parts.fraction (omega arith) few (forms parts.exponent parts.fraction)))
