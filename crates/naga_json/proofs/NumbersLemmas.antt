-- Numbers are read as they are written.
use Rattle.std.proofs.Common.{◌≡◌, ◌≢◌, ◌∙◌, sym, ap, ℕ, zero, ℤ, pos, negsuc, suc, ◌^◌, ◌<◌, ◌≤◌, List, [], ◌∷◌, codes, get_or, length, Option, Some, None, MatchOption, Bool, true, false, IfSome, cond, nat_lt, refl, arith, subst}
use Rattle.std.proofs.lemmas.Bool.Decides.{Decides-ltb, Decides-and, nat_tests}
use Rattle.std.proofs.lemmas.Fmt.{decimal_is_IsNumeral}
use Rattle.std.proofs.lemmas.Slice.Eq.{bytes_eq-Decides}
use Rattle.std.proofs.lemmas.Str.Parse.{without_leading_plus_none}
use Rattle.std.specs.Bool.{Decides}
use Rattle.std.specs.Char.{digit_value}
use Rattle.std.specs.Fmt.{decimal, signed_decimal}
use Rattle.std.specs.Int.NonZero.{non_zero_u32_get}
use Rattle.std.specs.Int.Signed.{mag}
use Rattle.std.specs.Str.{bytes_eq}
use Rattle.std.specs.Str.Parse.{AllDigits, IsNumeral, digits_value, starts_with_minus, without_leading_plus}
use Rattle.std.specs.contracts.num.NonZeroU32 as non_zero
use Rattle.std.specs.declared.num.NonZeroU32.{NonZeroU32}
use Rattle.json.proofs.Printed.Decimals.{IsNumber-decimal, IsNumber-signed_decimal}
use Rattle.json.specs.Json.{Json, number}
use Rattle.json.specs.Find.{as_number}
use Rattle.json.specs.Tree.{HasNumbers}
use Rattle.naga_json.specs.Lawful.{Gives}
use Rattle.naga_json.specs.Numbers.{◌>>=◌, below, within, has_only_digits, is_numeral, natural_of, natural_in, not_zero, integer_of, integer_in}
use Rattle.naga_json.proofs.GivesLemmas.{then_any}
use Rattle.naga_json.proofs.NamesLemmas.{false_from_Decides}

has_only_digits-Decides : (text : List ℕ) → Decides (has_only_digits text) (AllDigits 10 text)
has_only_digits-Decides [] = (λ _. tt, λ _. refl)
has_only_digits-Decides (c ∷ cs) = Decides-and _ _ (Decides-ltb (digit_value c) 10) (has_only_digits-Decides cs)

pub is_numeral-Decides : (text : List ℕ) → Decides (is_numeral text) (IsNumeral 10 text)
is_numeral-Decides text = Decides-and _ _ (Decides-ltb 0 (length text)) (has_only_digits-Decides text)

plus_is_no_digit : digit_value 43 < 10 → ⊥
plus_is_no_digit h = omega arith

-- a digit is no sign
first_digit : (text : List ℕ) → IsNumeral 10 text → get_or text 0 0 ≢ 43
first_digit [] (nonempty, digits) = absurd (omega arith)
first_digit (c ∷ cs) (nonempty, (first, others)) = λ is. plus_is_no_digit (subst (λ x. digit_value x < 10) is first)

minus_is_no_digit : digit_value 45 < 10 → ⊥
minus_is_no_digit h = omega arith

without_minus : (text : List ℕ) → IsNumeral 10 text → starts_with_minus text ≡ false
without_minus [] (nonempty, digits) = absurd (omega arith)
without_minus (c ∷ cs) (nonempty, (first, others)) =
    let other : c ≢ 45 = λ is. minus_is_no_digit (subst (λ x. digit_value x < 10) is first) in
    grind (arith, nat_tests)

-- ---- natural numbers

natural_of-decimal : (n : ℕ) → n < 2 ^ 64 → natural_of (decimal n) ≡ Some n
unfolding natural_of
natural_of-decimal n small =
    let numeral = decimal_is_IsNumeral n small in
    let plain : without_leading_plus (decimal n) ≡ decimal n = without_leading_plus_none (decimal n) (first_digit (decimal n) numeral.0) in
    let is : is_numeral (decimal n) ≡ true = (is_numeral-Decides (decimal n)).1 numeral.0 in
    rw (plain, is, numeral.1) refl

pub natural_in-decimal : (bound n : ℕ) → n < bound → bound ≤ 2 ^ 64 → natural_in bound (number (decimal n)) ≡ Some n
natural_in-decimal bound n small fits = rw (natural_of-decimal n (omega arith)) (grind (arith, nat_tests))

pub HasNumbers-decimal : (n : ℕ) → n < 2 ^ 64 → HasNumbers (number (decimal n))
HasNumbers-decimal n small = IsNumber-decimal n small

below-fits : (bound n : ℕ) → Gives (λ m. m < bound) (below bound n)
below-fits bound n = record { holds = at (nat_lt n bound) refl }
  where
    at : (b : Bool) → nat_lt n bound ≡ b → IfSome (cond b (Some n) None) (λ m. m < bound)
    at true is = grind (arith, nat_tests)
    at false is = tt

pub Gives-natural : (bound : ℕ) (j : Json) → Gives (λ n. n < bound) (natural_in bound j)
Gives-natural bound j = then_any (λ n. n < bound) (as_number j >>= natural_of) (below bound) (below-fits bound)

-- ---- numbers that are not 0

-- a number that is not 0 is its own value
pub not_zero-value : (n : ℕ) (count : NonZeroU32) → n ≡ count.value → not_zero n ≡ Some count
not_zero-value zero count is = absurd (omega (arith, count.ok, is))
not_zero-value (suc n) count is = ap Some (non_zero.the_type.to_one _ count (λ i. (is i, tt)))

-- a number is made into one that is not 0 exactly if it is not 0
pub not_zero-new : (n : ℕ) (r : Option NonZeroU32) → MatchOption r (n ≡ 0) (λ x. non_zero_u32_get x ≡ n) → r ≡ not_zero n
not_zero-new zero None h = refl
not_zero-new (suc n) None h = absurd (omega (arith, h))
not_zero-new n (Some x) h = sym (not_zero-value n x (sym h))

pub Gives-not_zero : (n : ℕ) → n < 2 ^ 32 → Gives (λ count. count.value < 2 ^ 32) (not_zero n)
Gives-not_zero zero small = record { holds = tt }
Gives-not_zero (suc n) small = record { holds = small }

-- ---- integers

is_no_such : (text other : List ℕ) → (text ≡ other → ⊥) → bytes_eq text other ≡ false
is_no_such text other never = false_from_Decides (bytes_eq text other) (bytes_eq-Decides text other) never

digit_is_no_minus : (text : List ℕ) → IsNumeral 10 text → bytes_eq text (codes "-0") ≡ false
digit_is_no_minus [] (nonempty, digits) = absurd (omega arith)
digit_is_no_minus (c ∷ cs) (nonempty, (first, others)) =
    let other : c ≢ 45 = λ is. minus_is_no_digit (subst (λ x. digit_value x < 10) is first) in
    is_no_such (c ∷ cs) (codes "-0") (λ is. other (cc))

integer_of-signed_decimal : (n : ℤ) → mag n < 2 ^ 63 → integer_of (signed_decimal n) ≡ Some n
unfolding integer_of
integer_of-signed_decimal (pos n) small =
    let numeral = decimal_is_IsNumeral n (omega arith) in
    let unsigned : starts_with_minus (decimal n) ≡ false = without_minus (decimal n) numeral.0 in
    let plain : without_leading_plus (decimal n) ≡ decimal n = without_leading_plus_none (decimal n) (first_digit (decimal n) numeral.0) in
    let is : is_numeral (decimal n) ≡ true = (is_numeral-Decides (decimal n)).1 numeral.0 in
    rw (unsigned, plain, is, digit_is_no_minus (decimal n) numeral.0, numeral.1) refl
integer_of-signed_decimal (negsuc n) small =
    let numeral = decimal_is_IsNumeral (suc n) (omega arith) in
    let is : is_numeral (decimal (suc n)) ≡ true = (is_numeral-Decides (decimal (suc n))).1 numeral.0 in
    rw (is, not_zero_text n numeral.1, numeral.1) refl
  where
    zero_value : (m : ℕ) (text : List ℕ) → digits_value 10 text ≡ suc m → 45 ∷ text ≡ codes "-0" → ⊥
    zero_value m text value is = let same : text ≡ codes "0" = cc in absurd (omega (arith, sym value ∙ ap (digits_value 10) same))

    not_zero_text : (m : ℕ) → digits_value 10 (decimal (suc m)) ≡ suc m → bytes_eq (45 ∷ decimal (suc m)) (codes "-0") ≡ false
    not_zero_text m value = is_no_such (45 ∷ decimal (suc m)) (codes "-0") (zero_value m (decimal (suc m)) value)

pub integer_in-signed_decimal : (bound : ℕ) (n : ℤ) → mag n < bound → bound ≤ 2 ^ 63 → integer_in bound (number (signed_decimal n)) ≡ Some n
integer_in-signed_decimal bound (pos n) small fits = let m : mag (pos n) < 2 ^ 63 = omega arith in rw (integer_of-signed_decimal (pos n) m) (grind (arith, nat_tests))
integer_in-signed_decimal bound (negsuc n) small fits = let m : mag (negsuc n) < 2 ^ 63 = omega arith in rw (integer_of-signed_decimal (negsuc n) m) (grind (arith, nat_tests))

pub HasNumbers-signed_decimal : (n : ℤ) → mag n < 2 ^ 63 → HasNumbers (number (signed_decimal n))
HasNumbers-signed_decimal n small = IsNumber-signed_decimal n small

within-fits : (bound : ℕ) (n : ℤ) → Gives (λ m. mag m < bound) (within bound n)
within-fits bound (pos n) = record { holds = at (nat_lt n bound) refl }
  where
    at : (b : Bool) → nat_lt n bound ≡ b → IfSome (cond b (Some (pos n)) None) (λ m. mag m < bound)
    at true is = grind (arith, nat_tests)
    at false is = tt
within-fits bound (negsuc n) = record { holds = at (nat_lt n bound) refl }
  where
    at : (b : Bool) → nat_lt n bound ≡ b → IfSome (cond b (Some (negsuc n)) None) (λ m. mag m < bound)
    at true is = grind (arith, nat_tests)
    at false is = tt

pub Gives-integer : (bound : ℕ) (j : Json) → Gives (λ n. mag n < bound) (integer_in bound j)
Gives-integer bound j = then_any (λ n. mag n < bound) (as_number j >>= integer_of) (within bound) (within-fits bound)
