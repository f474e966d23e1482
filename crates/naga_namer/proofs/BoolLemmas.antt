-- What tests on bytes say.
use Rattle.std.proofs.Common.{◌≡◌, ℕ, ◌<◌, ◌≤◌, List, ◌∷◌, Bool, true, false, ◌&&◌, ◌||◌, eqb, length, refl, ap, sym, ◌∙◌, arith}
use Rattle.std.specs.Char.{is_ascii_alphanumeric, is_ascii_digit}
use Rattle.std.proofs.lemmas.Bool.{false≢true}
use Rattle.std.proofs.lemmas.Bool.Decides.{nat_tests}
use Rattle.naga_namer.specs.Bases.{separates}
use Rattle.naga_namer.specs.Scopes.{is_word_byte}

pub equal-from : (n m : ℕ) → eqb n m ≡ true → n ≡ m
equal-from n m e = grind (arith, nat_tests)

-- a test that failed
pub differs-from : (n m : ℕ) → eqb n m ≡ false → eqb m m ≡ true → n ≡ m → ⊥
differs-from n m e whole same = false≢true (sym e ∙ ap (λ (k : ℕ). eqb k m) same ∙ whole)

by-test : (n m : ℕ) (b : Bool) → eqb n m ≡ b → (n ≡ m → ⊥) → b ≡ false
by-test n m true e other = absurd (other (equal-from n m e))
by-test n m false e other = refl

pub test-fails : (n m : ℕ) → (n ≡ m → ⊥) → eqb n m ≡ false
test-fails n m other = by-test n m (eqb n m) refl other

pub and-other : (x y : Bool) → (x && y) ≡ false → x ≡ true → y ≡ false
and-other true y both first = both
and-other false y both first = absurd (false≢true first)

pub and-first : (x y : Bool) → (x && y) ≡ true → x ≡ true
and-first true y both = refl
and-first false y both = both

pub and-second : (x y : Bool) → (x && y) ≡ true → y ≡ true
and-second true y both = both
and-second false y both = absurd (false≢true both)

pub or-first : (x y : Bool) → (x || y) ≡ false → x ≡ false
or-first true y none = none
or-first false y none = refl

pub or-second : (x y : Bool) → (x || y) ≡ false → y ≡ false
or-second true y none = absurd (false≢true (sym none))
or-second false y none = none

pub digit-true : (n : ℕ) → 48 ≤ n → n ≤ 57 → is_ascii_digit n ≡ true
digit-true n low high = grind (arith, nat_tests)

pub digit-word : (n : ℕ) → 48 ≤ n → n ≤ 57 → is_word_byte n ≡ true
digit-word n low high = grind (arith, nat_tests)

pub digit-low : (n : ℕ) → is_ascii_digit n ≡ true → n < 128
digit-low n digit = grind (arith, nat_tests)

pub word-low : (n : ℕ) → is_word_byte n ≡ true → n < 128
word-low n word = grind (arith, nat_tests)

pub separator-word : (n : ℕ) → separates n ≡ true → is_word_byte n ≡ true → n ≡ 95
separator-word n separator word = grind (arith, nat_tests)

pub other-word : (n : ℕ) → separates n ≡ false → is_word_byte n ≡ true → is_ascii_alphanumeric n ≡ true
other-word n other word = grind (arith, nat_tests)

-- a list with an element is not empty
pub cons-length : {A : Type 0} (x : A) (xs : List A) → eqb (length (x ∷ xs)) 0 ≡ false
cons-length x xs = test-fails (length (x ∷ xs)) 0 (λ e. omega arith)
