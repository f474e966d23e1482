-- The characters of a label that are appended as they are.
use Rattle.std.proofs.Common.{◌≡◌, ℕ, List, [], ◌∷◌, ◌++◌, Bool, true, false, ◌&&◌, cond, eqb, length, refl, sym, arith}
use Rattle.std.specs.Char.{is_ascii_alphanumeric}
use Rattle.std.specs.Char.Unicode.Numeric.{is_numeric}
use Rattle.std.proofs.lemmas.Bool.{false≢true}
use Rattle.std.proofs.lemmas.Bool.Decides.{nat_tests}
use Rattle.naga_namer.specs.Bases.{appended, code_text, separated, separates, underscored}

plain-separates : (c : ℕ) → is_ascii_alphanumeric c ≡ true → separates c ≡ false
plain-separates c plain = grind (arith, nat_tests)

third : (empty numeric separator plain : Bool) (a b x y : List ℕ) → empty ≡ false → separator ≡ false → plain ≡ true
    → cond (empty && numeric) a (cond separator b (cond plain x y)) ≡ x
third true numeric separator plain a b x y full other is = absurd (false≢true (sym full))
third false numeric true plain a b x y full other is = absurd (false≢true (sym other))
third false numeric false true a b x y full other is = refl
third false numeric false false a b x y full other is = absurd (false≢true is)

-- a letter or a digit that is not at the beginning
pub appended_plain : (base : List ℕ) (c : ℕ) → eqb (length base) 0 ≡ false → is_ascii_alphanumeric c ≡ true → appended base c ≡ base ++ c ∷ []
appended_plain base c full plain =
    third (eqb (length base) 0) (is_numeric c) (separates c) (is_ascii_alphanumeric c) base (underscored base) (base ++ c ∷ [])
    (separated base ++ code_text c) full (plain-separates c plain) plain
