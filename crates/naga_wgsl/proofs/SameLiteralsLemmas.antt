-- Literals with the same text are equal, type by type.
use Rattle.std.proofs.Common.{◌≡◌, ◌≢◌, ◌∙◌, ◌⊎◌, inl, inr, ap, subst, sym, refl, arith, ℕ, ℤ, pos, negsuc, suc, ◌<◌, ◌≤◌, ◌^◌, List, [], ◌∷◌, ◌++◌, Bool, true, false}
use Rattle.std.specs.Prelude.{if◌then◌else◌, nat_le, codes, Ok}
use Rattle.std.specs.Fmt.{decimal, signed_decimal}
use Rattle.std.specs.Int.Signed.{mag}
use Rattle.std.specs.Ordering.{int_eq}
use Rattle.std.specs.Str.Parse.{AllDigits}
use Rattle.std.proofs.lemmas.Bool.{cases_lt, false≢true, le-leb, lt-leb}
use Rattle.std.proofs.lemmas.Bool.Decides.{Decides-int_eq}
use Rattle.std.proofs.lemmas.Fmt.{decimal_injective, decimal_is_IsNumeral, signed_decimal_injective}
use Rattle.std.proofs.lemmas.List.{append_cancel_right}
use Rattle.naga_ir.specs.declared.literal.Literal.{Literal}
use Rattle.naga_ir.specs.declared.literal.Literal.TheVariants.{F64, F32, F16, U16, I16, U32, I32, U64, I64, AbstractInt, AbstractFloat}
use Rattle.naga_ir.specs.declared.literal.Literal.TheVariants.{Bool as Truth}
use Rattle.naga_wgsl.specs.Floats.{float_text, magnitude_text, parts_of_16, parts_of_32, parts_of_64, sign_text}
use Rattle.naga_wgsl.specs.Literals.{IsInRange, abstract_integer_text, i32_text, text_of_float, text_of_literal, truth_text}
use Rattle.naga_wgsl.specs.declared.float.FloatParts.{FloatParts}
use Rattle.naga_wgsl.proofs.FloatTextLemmas.{Forms, behind, first-magnitude, first_of, float_text-same, forms, least-is, normal-is, rest_of, zero-is}
use Rattle.naga_wgsl.proofs.LiteralTextLemmas.{ends-signed, float-is, last-append, last-ends, last_of, mark-literal, mark_of, ok-same, said}

-- no number is written with a point or an `x` behind its first digit
no-point : (n c : ℕ) (t : List ℕ) → n < 2 ^ 64 → (AllDigits 10 (48 ∷ c ∷ t) → ⊥) → decimal n ≢ 48 ∷ c ∷ t
no-point n c t small none same =
    let digits = ((decimal_is_IsNumeral n small).0).1 in
    none (subst (AllDigits 10) same digits)

no-dot : (t : List ℕ) → AllDigits 10 (48 ∷ 46 ∷ t) → ⊥
no-dot t digits = omega (arith, (digits.1).0)

no-x : (t : List ℕ) → AllDigits 10 (48 ∷ 120 ∷ t) → ⊥
no-x t digits = omega (arith, (digits.1).0)

no-magnitude : (n bias e f : ℕ) → n < 2 ^ 64 → Forms e f → decimal n ≢ magnitude_text bias e f ++ []
no-magnitude n bias e f small (inl p) same = no-point n 46 (48 ∷ []) small (no-dot (48 ∷ [])) (same ∙ zero-is bias e f [] p.0 p.1)
no-magnitude n bias e f small (inr (inl p)) same =
    no-point n 120 (48 ∷ behind bias 1 f []) small (no-x (48 ∷ behind bias 1 f [])) (same ∙ least-is bias e f [] p.0 p.1)
no-magnitude n bias e f small (inr (inr p)) same =
    no-point n 120 (49 ∷ behind bias e f []) small (no-x (49 ∷ behind bias e f [])) (same ∙ normal-is bias e f [] p)

digit-first-by : (n : ℕ) (text : List ℕ) → AllDigits 10 text → first_of text ≢ 45
digit-first-by n [] digits same = omega (arith, same)
digit-first-by n (x ∷ xs) digits same = absurd (omega (arith, (subst (λ first. AllDigits 10 (first ∷ xs)) same digits).0))

-- an integer and a float that have no concrete type have different texts
signed-apart : (n : ℤ) (parts : FloatParts) (b : Bool) → mag n < 2 ^ 63
    → signed_decimal n ≢ sign_text b ++ (magnitude_text 1023 parts.exponent parts.fraction ++ [])
signed-apart (pos n) parts false small same =
    no-magnitude n 1023 parts.exponent parts.fraction (omega (arith, small)) (forms parts.exponent parts.fraction) same
signed-apart (pos n) parts true small same =
    digit-first-by n (decimal n) ((decimal_is_IsNumeral n (omega (arith, small))).0).1 (ap first_of same)
signed-apart (negsuc n) parts true small same =
    no-magnitude (suc n) 1023 parts.exponent parts.fraction (omega (arith, small)) (forms parts.exponent parts.fraction) (ap rest_of same)
signed-apart (negsuc n) parts false small same =
    omega (arith, first-magnitude 1023 parts.exponent parts.fraction [], ap first_of same)

lowest-apart : (parts : FloatParts) (b : Bool) → codes "(-9223372036854775807 - 1)" ≢ sign_text b ++ (magnitude_text 1023 parts.exponent parts.fraction ++ [])
lowest-apart parts true same = omega (arith, ap first_of same)
lowest-apart parts false same = omega (arith, first-magnitude 1023 parts.exponent parts.fraction [], ap first_of same)

abstract-apart-by : (n : ℤ) (b : Bool) (parts : FloatParts) → mag n < 2 ^ 63
    → (if b then codes "(-9223372036854775807 - 1)" else signed_decimal n) ≢ float_text 1023 parts []
abstract-apart-by n true parts small same = lowest-apart parts parts.is_negative same
abstract-apart-by n false parts small same = signed-apart n parts parts.is_negative small same

abstract-apart : (n : ℤ) (bits : ℕ) (text : List ℕ) → mag n < 2 ^ 63 → said (abstract_integer_text n) ≡ said text → text_of_float 1023 (parts_of_64 bits) [] ≢ Ok text
abstract-apart n bits text small one other =
    abstract-apart-by n (int_eq n (negsuc 9223372036854775807)) (parts_of_64 bits) small
    (ok-same (abstract_integer_text n) text one ∙ sym (float-is 1023 (parts_of_64 bits) [] text other))

-- numbers on the same side of a bound
abbrev Beside : (k a b : ℕ) → Type 0
Beside k a b = ((k ≤ a) × (k ≤ b)) ⊎ ((a < k) × (b < k))

beside-by : (k a b : ℕ) → (a < k) ⊎ (k ≤ a) → (b < k) ⊎ (k ≤ b) → nat_le k a ≡ nat_le k b → Beside k a b
beside-by k a b (inl p) (inl q) same = inr (p, q)
beside-by k a b (inr p) (inr q) same = inl (p, q)
beside-by k a b (inl p) (inr q) same = absurd (false≢true (sym (lt-leb k a p) ∙ same ∙ le-leb k b q))
beside-by k a b (inr p) (inl q) same = absurd (false≢true (sym (lt-leb k b q) ∙ sym same ∙ le-leb k a p))

beside : (k a b : ℕ) → nat_le k a ≡ nat_le k b → Beside k a b
beside k a b same = beside-by k a b (cases_lt a k) (cases_lt b k) same

-- the bits of a float are determined by its parts
bits-16 : (a b : ℕ) → a < 2 ^ 16 → b < 2 ^ 16 → Beside (2 ^ 15) a b → (parts_of_16 a).exponent ≡ (parts_of_16 b).exponent
    → (parts_of_16 a).fraction ≡ (parts_of_16 b).fraction → a ≡ b
bits-16 a b m n (inl p) exponents fractions = omega (arith, p, exponents, fractions)
bits-16 a b m n (inr p) exponents fractions = omega (arith, p, exponents, fractions)

bits-32 : (a b : ℕ) → a < 2 ^ 32 → b < 2 ^ 32 → Beside (2 ^ 31) a b → (parts_of_32 a).exponent ≡ (parts_of_32 b).exponent
    → (parts_of_32 a).fraction ≡ (parts_of_32 b).fraction → a ≡ b
bits-32 a b m n (inl p) exponents fractions = omega (arith, p, exponents, fractions)
bits-32 a b m n (inr p) exponents fractions = omega (arith, p, exponents, fractions)

bits-64 : (a b : ℕ) → a < 2 ^ 64 → b < 2 ^ 64 → Beside (2 ^ 63) a b → (parts_of_64 a).exponent ≡ (parts_of_64 b).exponent
    → (parts_of_64 a).fraction ≡ (parts_of_64 b).fraction → a ≡ b
bits-64 a b m n (inl p) exponents fractions = omega (arith, p, exponents, fractions)
bits-64 a b m n (inr p) exponents fractions = omega (arith, p, exponents, fractions)

f16-same : (a b : ℕ) (text : List ℕ) → a < 2 ^ 16 → b < 2 ^ 16
    → text_of_float 15 (parts_of_16 a) (codes "h") ≡ Ok text → text_of_float 15 (parts_of_16 b) (codes "h") ≡ Ok text → a ≡ b
f16-same a b text m n one other =
    let parts = float_text-same 15 (parts_of_16 a) (parts_of_16 b) (codes "h") (omega arith) (omega arith) (omega arith) (omega arith) (omega arith)
    (float-is 15 (parts_of_16 a) (codes "h") text one ∙ sym (float-is 15 (parts_of_16 b) (codes "h") text other)) in
    bits-16 a b m n (beside (2 ^ 15) a b parts.0) parts.1 parts.2

f32-same : (a b : ℕ) (text : List ℕ) → a < 2 ^ 32 → b < 2 ^ 32
    → text_of_float 127 (parts_of_32 a) (codes "f") ≡ Ok text → text_of_float 127 (parts_of_32 b) (codes "f") ≡ Ok text → a ≡ b
f32-same a b text m n one other =
    let parts = float_text-same 127 (parts_of_32 a) (parts_of_32 b) (codes "f") (omega arith) (omega arith) (omega arith) (omega arith) (omega arith)
    (float-is 127 (parts_of_32 a) (codes "f") text one ∙ sym (float-is 127 (parts_of_32 b) (codes "f") text other)) in
    bits-32 a b m n (beside (2 ^ 31) a b parts.0) parts.1 parts.2

f64-same : (a b : ℕ) (text : List ℕ) → a < 2 ^ 64 → b < 2 ^ 64
    → text_of_float 1023 (parts_of_64 a) [] ≡ Ok text → text_of_float 1023 (parts_of_64 b) [] ≡ Ok text → a ≡ b
f64-same a b text m n one other =
    let parts = float_text-same 1023 (parts_of_64 a) (parts_of_64 b) [] (omega arith) (omega arith) (omega arith) (omega arith) (omega arith)
    (float-is 1023 (parts_of_64 a) [] text one ∙ sym (float-is 1023 (parts_of_64 b) [] text other)) in
    bits-64 a b m n (beside (2 ^ 63) a b parts.0) parts.1 parts.2

-- the number of an `i32` from its text
i32-same-by : (m n : ℤ) (x y : Bool) → int_eq m (negsuc 2147483647) ≡ x → int_eq n (negsuc 2147483647) ≡ y → mag m < 2 ^ 31 → mag n < 2 ^ 31
    → (if x then codes "i32(-2147483648)" else (signed_decimal m ++ codes "i")) ≡ (if y then codes "i32(-2147483648)" else (signed_decimal n ++ codes "i")) → m ≡ n
i32-same-by m n true true p q i j same = (Decides-int_eq m (negsuc 2147483647)).0 p ∙ sym ((Decides-int_eq n (negsuc 2147483647)).0 q)
i32-same-by m n false false p q i j same =
    signed_decimal_injective m n (omega (arith, i)) (omega (arith, j)) (append_cancel_right (signed_decimal m) (signed_decimal n) (codes "i") same)
i32-same-by m n true false p q i j same = absurd (omega (arith, ap last_of same, last-append (signed_decimal n) 105))
i32-same-by m n false true p q i j same = absurd (omega (arith, ap last_of same, last-append (signed_decimal m) 105))

-- the number of an integer that has no concrete type, from its text
abstract-same-by : (m n : ℤ) (x y : Bool) → int_eq m (negsuc 9223372036854775807) ≡ x → int_eq n (negsuc 9223372036854775807) ≡ y → mag m < 2 ^ 63 → mag n < 2 ^ 63
    → (if x then codes "(-9223372036854775807 - 1)" else signed_decimal m) ≡ (if y then codes "(-9223372036854775807 - 1)" else signed_decimal n) → m ≡ n
abstract-same-by m n true true p q i j same = (Decides-int_eq m (negsuc 9223372036854775807)).0 p ∙ sym ((Decides-int_eq n (negsuc 9223372036854775807)).0 q)
abstract-same-by m n false false p q i j same = signed_decimal_injective m n i j same
abstract-same-by m n true false p q i j same = absurd (last-ends (signed_decimal n) (ends-signed n j) (sym (ap last_of same)))
abstract-same-by m n false true p q i j same = absurd (last-ends (signed_decimal m) (ends-signed m i) (ap last_of same))

truth-same : (x y : Bool) → truth_text x ≡ truth_text y → x ≡ y
truth-same true true same = refl
truth-same false false same = refl
truth-same true false same = absurd (omega (arith, ap first_of same))
truth-same false true same = absurd (omega (arith, ap first_of same))

-- a literal that has the text of one of a given type is that one
from-f32 : (a : ℕ) (b : Literal) (text : List ℕ) → 102 ≡ mark_of b → a < 2 ^ 32 → IsInRange b
    → text_of_literal (F32 a) ≡ Ok text → text_of_literal b ≡ Ok text → F32 a ≡ b
from-f32 a (F32 b) text marks i j one other = ap F32 (f32-same a b text i j one other)
from-f32 a b text marks i j one other = absurd (omega (arith, marks))

from-f16 : (a : ℕ) (b : Literal) (text : List ℕ) → 104 ≡ mark_of b → a < 2 ^ 16 → IsInRange b
    → text_of_literal (F16 a) ≡ Ok text → text_of_literal b ≡ Ok text → F16 a ≡ b
from-f16 a (F16 b) text marks i j one other = ap F16 (f16-same a b text i j one other)
from-f16 a b text marks i j one other = absurd (omega (arith, marks))

from-u32 : (m : ℕ) (b : Literal) (text : List ℕ) → 117 ≡ mark_of b → m < 2 ^ 32 → IsInRange b
    → text_of_literal (U32 m) ≡ Ok text → text_of_literal b ≡ Ok text → U32 m ≡ b
from-u32 m (U32 n) text marks i j one other =
    ap U32 (decimal_injective m n (omega (arith, i)) (omega (arith, j))
    (append_cancel_right (decimal m) (decimal n) (codes "u") (ok-same (decimal m ++ codes "u") text one ∙ sym (ok-same (decimal n ++ codes "u") text other))))
from-u32 m b text marks i j one other = absurd (omega (arith, marks))

from-i32 : (m : ℤ) (b : Literal) (text : List ℕ) → 105 ≡ mark_of b → mag m < 2 ^ 31 → IsInRange b
    → text_of_literal (I32 m) ≡ Ok text → text_of_literal b ≡ Ok text → I32 m ≡ b
from-i32 m (I32 n) text marks i j one other =
    ap I32 (i32-same-by m n (int_eq m (negsuc 2147483647)) (int_eq n (negsuc 2147483647)) refl refl i j (ok-same (i32_text m) text one ∙ sym (ok-same (i32_text n) text other)))
from-i32 m b text marks i j one other = absurd (omega (arith, marks))

from-truth : (x : Bool) (b : Literal) (text : List ℕ) → 101 ≡ mark_of b
    → text_of_literal (Truth x) ≡ Ok text → text_of_literal b ≡ Ok text → Truth x ≡ b
from-truth x (Truth y) text marks one other =
    ap Truth (truth-same x y (ok-same (truth_text x) text one ∙ sym (ok-same (truth_text y) text other)))
from-truth x b text marks one other = absurd (omega (arith, marks))

from-abstract_integer : (m : ℤ) (b : Literal) (text : List ℕ) → 0 ≡ mark_of b → mag m < 2 ^ 63 → IsInRange b
    → text_of_literal (AbstractInt m) ≡ Ok text → text_of_literal b ≡ Ok text → AbstractInt m ≡ b
from-abstract_integer m (AbstractInt n) text marks i j one other =
    ap AbstractInt (abstract-same-by m n (int_eq m (negsuc 9223372036854775807)) (int_eq n (negsuc 9223372036854775807)) refl refl i j
    (ok-same (abstract_integer_text m) text one ∙ sym (ok-same (abstract_integer_text n) text other)))
from-abstract_integer m (AbstractFloat bits) text marks i j one other = absurd (abstract-apart m bits text i one other)
from-abstract_integer m b text marks i j one other = absurd (omega (arith, marks))

from-abstract_float : (a : ℕ) (b : Literal) (text : List ℕ) → 0 ≡ mark_of b → a < 2 ^ 64 → IsInRange b
    → text_of_literal (AbstractFloat a) ≡ Ok text → text_of_literal b ≡ Ok text → AbstractFloat a ≡ b
from-abstract_float a (AbstractFloat b) text marks i j one other = ap AbstractFloat (f64-same a b text i j one other)
from-abstract_float a (AbstractInt n) text marks i j one other = absurd (abstract-apart n a text j other one)
from-abstract_float a b text marks i j one other = absurd (omega (arith, marks))

same-by : (a b : Literal) (text : List ℕ) → mark_of a ≡ mark_of b → IsInRange a → IsInRange b → text_of_literal a ≡ Ok text → text_of_literal b ≡ Ok text → a ≡ b
same-by (F64 bits) b text marks i j one other = cc
same-by (F32 bits) b text marks i j one other = from-f32 bits b text marks i j one other
same-by (F16 bits) b text marks i j one other = from-f16 bits b text marks i j one other
same-by (U16 n) b text marks i j one other = cc
same-by (I16 n) b text marks i j one other = cc
same-by (U32 n) b text marks i j one other = from-u32 n b text marks i j one other
same-by (I32 n) b text marks i j one other = from-i32 n b text marks i j one other
same-by (U64 n) b text marks i j one other = cc
same-by (I64 n) b text marks i j one other = cc
same-by (Truth x) b text marks i j one other = from-truth x b text marks one other
same-by (AbstractInt n) b text marks i j one other = from-abstract_integer n b text marks i j one other
same-by (AbstractFloat bits) b text marks i j one other = from-abstract_float bits b text marks i j one other

-- literals with the same text are equal
pub same-literal : (a b : Literal) (text : List ℕ) → IsInRange a → IsInRange b → text_of_literal a ≡ Ok text → text_of_literal b ≡ Ok text → a ≡ b
same-literal a b text i j one other = same-by a b text (sym (mark-literal a text i one) ∙ mark-literal b text j other) i j one other
