-- Whether a prefix begins like a base with `_`.
use Rattle.std.proofs.Common.{◌≡◌, ℕ, suc, min, ◌<◌, ◌≤◌, List, [], ◌∷◌, ◌++◌, Bool, true, false, ◌&&◌, ◌==◌, length, get_or, refl, ap, sym, ◌∙◌, arith, take}
use Rattle.std.specs.Prelude.{nat_eq}
use Rattle.std.specs.Str.{bytes_eq}
use Rattle.naga_namer.specs.Bases.{begin_alike, underscore}

alike-by : (n : ℕ) (a b : List ℕ) → min (length a) (length b) ≡ n → begin_alike a b ≡ bytes_eq (take n a) (take n b)
alike-by n a b is = ap (λ (k : ℕ). bytes_eq (take k a) (take k b)) is

alike-none-left : (b : List ℕ) → begin_alike [] b ≡ true
alike-none-left b = alike-by 0 [] b (omega arith)

alike-none-right : (a : List ℕ) → begin_alike a [] ≡ true
alike-none-right a = alike-by 0 a [] (omega arith)

alike-cons : (x y : ℕ) (a b : List ℕ) → begin_alike (x ∷ a) (y ∷ b) ≡ (nat_eq x y && begin_alike a b)
alike-cons x y a b = alike-by (suc (min (length a) (length b))) (x ∷ a) (y ∷ b) (omega arith)

and-true : (p : Bool) → p ≡ (p && true)
and-true true = refl
and-true false = refl

and-assoc : (p q r : Bool) → ((p && q) && r) ≡ (p && (q && r))
and-assoc true q r = refl
and-assoc false q r = refl

-- a prefix that is no longer than the base
pub begins_short : (a b : List ℕ) → length a ≤ length b → begin_alike a b ≡ begin_alike a (b ++ underscore ∷ [])
begins_short [] b within = alike-none-left b ∙ sym (alike-none-left (b ++ underscore ∷ []))
begins_short (x ∷ a) [] within = absurd (omega arith)
begins_short (x ∷ a) (y ∷ b) within =
    alike-cons x y a b ∙ ap (λ (p : Bool). nat_eq x y && p) (begins_short a b (omega arith))
    ∙ sym (alike-cons x y a (b ++ underscore ∷ []))

-- a longer one
pub begins_long : (a b : List ℕ) (d : ℕ) → length b < length a
    → (begin_alike a b && (get_or a (length b) d == underscore)) ≡ begin_alike a (b ++ underscore ∷ [])
begins_long [] b d past = absurd (omega arith)
begins_long (x ∷ a) [] d past =
    ap (λ (p : Bool). p && (x == underscore)) (alike-none-right (x ∷ a)) ∙ and-true (x == underscore)
    ∙ ap (λ (p : Bool). nat_eq x underscore && p) (sym (alike-none-right a)) ∙ sym (alike-cons x underscore a [])
begins_long (x ∷ a) (y ∷ b) d past =
    ap (λ (p : Bool). p && (get_or a (length b) d == underscore)) (alike-cons x y a b)
    ∙ and-assoc (nat_eq x y) (begin_alike a b) (get_or a (length b) d == underscore)
    ∙ ap (λ (p : Bool). nat_eq x y && p) (begins_long a b d (omega arith)) ∙ sym (alike-cons x y a (b ++ underscore ∷ []))
