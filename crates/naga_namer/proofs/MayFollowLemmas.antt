-- Bytes of identifiers that follow one another.
use Rattle.std.proofs.Common.{◌≡◌, ℕ, zero, suc, ◌+◌, ◌/◌, ◌%◌, ◌<◌, ◌≤◌, List, [], ◌∷◌, ◌++◌, Bool, true, false, ◌&&◌, ◌||◌, eqb, ltb, cond, refl, ap, sym, ◌∙◌, arith, replicate}
use Rattle.std.specs.Prelude.{codes}
use Rattle.std.specs.Char.{is_ascii_alphanumeric}
use Rattle.std.specs.List.{AllByRecursion}
use Rattle.std.specs.Fmt.{digit_glyph, digits, digits_onto}
use Rattle.std.proofs.lemmas.Bool.{false≢true}
use Rattle.std.proofs.lemmas.Bool.Decides.{nat_tests}
use Rattle.naga_namer.specs.Bases.{code_digits, code_text, last_or, underscore}
use Rattle.naga_namer.specs.Scopes.{MayFollow, is_word_byte}
use Rattle.naga_namer.proofs.BoolLemmas.{and-first, and-second}

pub may-append : (p : ℕ) (xs ys : List ℕ) → MayFollow p xs → MayFollow (last_or p xs) ys → MayFollow p (xs ++ ys)
may-append p [] ys left right = right
may-append p (x ∷ xs) ys left right = (left.0, left.1, may-append x xs ys left.2 right)

-- what may follow a byte may follow any byte but `_`
pub may-after : (p q : ℕ) (xs : List ℕ) → MayFollow p xs → (q ≡ underscore → ⊥) → MayFollow q xs
may-after p q [] may other = tt
may-after p q (x ∷ xs) may other = (may.0, λ e same. other e, may.2)

-- ---- the digits of a code

-- a byte of an identifier that is no `_`
abbrev IsGlyph : ℕ → Type 0
IsGlyph byte = (is_word_byte byte ≡ true) × (byte ≡ underscore → ⊥)

ltb-low : (d : ℕ) → ltb d 10 ≡ true → d < 10
ltb-low d e = grind (arith, nat_tests)

ltb-high : (d : ℕ) → ltb d 10 ≡ false → 10 ≤ d
ltb-high d e = grind (arith, nat_tests)

word-low-letter : (d : ℕ) → d < 10 → is_word_byte (48 + d) ≡ true
word-low-letter d small = grind (arith, nat_tests)

word-high-letter : (d : ℕ) → 10 ≤ d → d < 16 → is_word_byte (87 + d) ≡ true
word-high-letter d high small = grind (arith, nat_tests)

glyph-low : (d : ℕ) → d < 10 → IsGlyph (48 + d)
glyph-low d small = (word-low-letter d small, λ e. omega arith)

glyph-high : (d : ℕ) → 10 ≤ d → d < 16 → IsGlyph (87 + d)
glyph-high d high small = (word-high-letter d high small, λ e. omega arith)

glyph-by : (d : ℕ) (b : Bool) → ltb d 10 ≡ b → d < 16 → IsGlyph (cond b (48 + d) (87 + d))
glyph-by d true e small = glyph-low d (ltb-low d e)
glyph-by d false e small = glyph-high d (ltb-high d e) small

glyph : (d : ℕ) → d < 16 → IsGlyph (digit_glyph false d)
glyph d small = glyph-by d (ltb d 10) refl small

glyphs-onto : (k n : ℕ) (bytes : List ℕ) → AllByRecursion IsGlyph bytes → AllByRecursion IsGlyph (digits_onto k 16 false n bytes)
glyphs-onto zero n bytes all = all
glyphs-onto (suc k) n bytes all =
    let here : IsGlyph (digit_glyph false (n % 16)) = glyph (n % 16) (omega arith) in
    elim (eqb (n / 16) 0) as (λ v. AllByRecursion IsGlyph (cond v (digit_glyph false (n % 16) ∷ bytes) (digits_onto k 16 false (n / 16) (digit_glyph false (n % 16) ∷ bytes))))
    [ true ↦ (here, all) | false ↦ glyphs-onto k (n / 16) (digit_glyph false (n % 16) ∷ bytes) (here, all) ]

glyphs-digits : (n : ℕ) → AllByRecursion IsGlyph (digits 16 false n)
unfolding digits
glyphs-digits n = glyphs-onto 64 n [] tt

glyphs-zeros : (n : ℕ) (bytes : List ℕ) → AllByRecursion IsGlyph bytes → AllByRecursion IsGlyph (replicate n 48 ++ bytes)
glyphs-zeros zero bytes all = all
glyphs-zeros (suc n) bytes all = (glyph-low 0 (omega arith), glyphs-zeros n bytes all)

glyphs-may : (p : ℕ) (bytes : List ℕ) → AllByRecursion IsGlyph bytes → MayFollow p bytes
glyphs-may p [] all = tt
glyphs-may p (byte ∷ rest) all = (all.0.0, λ e. all.0.1, glyphs-may byte rest all.1)

glyphs-last : (p : ℕ) (bytes : List ℕ) → AllByRecursion IsGlyph bytes → (p ≡ underscore → ⊥) → last_or p bytes ≡ underscore → ⊥
glyphs-last p [] all other same = other same
glyphs-last p (byte ∷ rest) all other same = glyphs-last byte rest all.1 all.0.1 same

letter-other : 117 ≡ underscore → ⊥
letter-other same = omega arith

pub code-may : (p c : ℕ) → MayFollow p (code_text c)
code-may p c =
    let glyphs : AllByRecursion IsGlyph (code_digits c) = glyphs-zeros _ (digits 16 false c) (glyphs-digits c) in
    let last : MayFollow (last_or 117 (code_digits c)) (codes "_") =
    (refl, λ e. absurd (glyphs-last 117 (code_digits c) glyphs letter-other e), tt) in
    (refl, λ e. letter-other, may-append 117 (code_digits c) (codes "_") (glyphs-may 117 (code_digits c) glyphs) last)

-- ---- letters and digits

abbrev pub are_letters : List ℕ → Bool
are_letters [] = true
are_letters (byte ∷ rest) = is_ascii_alphanumeric byte && are_letters rest

no-letter : (byte : ℕ) → is_ascii_alphanumeric byte ≡ true → byte ≡ underscore → ⊥
no-letter byte letter same =
    let other : is_ascii_alphanumeric byte ≡ false = ap is_ascii_alphanumeric same in
    false≢true (sym other ∙ letter)

pub letters-may : (p : ℕ) (bytes : List ℕ) → are_letters bytes ≡ true → MayFollow p bytes
letters-may p [] letters = tt
letters-may p (byte ∷ rest) letters =
    let here : is_ascii_alphanumeric byte ≡ true = and-first (is_ascii_alphanumeric byte) (are_letters rest) letters in (
      ap (λ (b : Bool). b || eqb byte underscore) here,
      λ e. no-letter byte here,
      letters-may byte rest (and-second (is_ascii_alphanumeric byte) (are_letters rest) letters),
    )
