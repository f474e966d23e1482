-- The last byte of a text.
use Rattle.std.proofs.Common.{◌≡◌, ℕ, ◌-◌, ◌<◌, List, [], ◌∷◌, Bool, true, false, cond, eqb, get_or, length, take, refl, ap, sym, subst, ◌∙◌, arith}
use Rattle.std.proofs.lemmas.Bool.{false≢true}
use Rattle.naga_namer.specs.Bases.{last_or, trimmed}

last-get : (default x : ℕ) (xs : List ℕ) (e : ℕ) → last_or default (x ∷ xs) ≡ get_or (x ∷ xs) (length xs) e
last-get default x [] e = refl
last-get default x (y ∷ xs) e = last-get x y xs e

pub last-at : (default : ℕ) (bytes : List ℕ) (e : ℕ) → 0 < length bytes → last_or default bytes ≡ get_or bytes (length bytes - 1) e
last-at default [] e more = absurd (omega arith)
last-at default (x ∷ xs) e more =
    let len : length xs ≡ length (x ∷ xs) - 1 = omega arith in
    last-get default x xs e ∙ ap (λ (n : ℕ). get_or (x ∷ xs) n e) len

not-empty : (bytes : List ℕ) → last_or 0 bytes ≡ 95 → 0 < length bytes
not-empty [] last = absurd (omega (arith, last))
not-empty (x ∷ xs) last = omega arith

-- what is left when `_` is taken from the end
pub trim-last : (old new : List ℕ) (len : ℕ) → last_or 0 old ≡ 95 → len ≡ length old
    → (0 < len → get_or old (len - 1) 0 < 128 → new ≡ take (len - 1) old) → new ≡ trimmed old
trim-last old new len last is popped =
    let more : 0 < length old = not-empty old last in
    let byte : get_or old (length old - 1) 0 ≡ 95 = sym (last-at 0 old 0 more) ∙ last in
    let P : ℕ → Type 0 = λ n. 0 < n → get_or old (n - 1) 0 < 128 → new ≡ take (n - 1) old in
    let at : new ≡ take (length old - 1) old = subst P is popped more (omega arith) in
    let test : eqb (last_or 0 old) 95 ≡ true = ap (λ (n : ℕ). eqb n 95) last in
    at ∙ sym (ap (λ (b : Bool). cond b (take (length old - 1) old) old) test)

pub more-than-none : (bytes : List ℕ) (b : Bool) → b ≡ eqb (length bytes) 0 → b ≡ false → 0 < length bytes
more-than-none [] b is test = absurd (false≢true (sym test ∙ is))
more-than-none (x ∷ xs) b is test = omega arith
