-- The line of some bytes, and the part of it that is in a chunk: lemmas on specs/Lines.antt.
use Rattle.std.proofs.Common.{◌≡◌, ℕ, Bool, true, false, not, cond, List, [], ◌∷◌, ◌++◌, ◌+◌, ◌<◌, length, take, drop, suc, get_or, refl, ap, ◌∙◌, sym, inl, inr, append_assoc, append-nil, arith}
use Rattle.std.proofs.Math.Seq.{split_at}
use Rattle.std.proofs.lemmas.Bool.{cases_Bool}
use Rattle.std.proofs.lemmas.List.{get_or-take, length-take-le}
use Rattle.std.specs.List.{position_or_len}
use Rattle.naga_shape.specs.Lines.{line_of, is_newline, IsOpen, TakesPart}

-- no byte is taken if `test` is true, and otherwise the first byte and `n` more
take-cond : (test : Bool) (n byte : ℕ) (rest : List ℕ)
    → take (cond (not test) (1 + n) 0) (byte ∷ rest) ≡ cond test [] (byte ∷ take n rest)
take-cond true n byte rest = refl
take-cond false n byte rest = let one : 1 + n ≡ suc n = omega arith in ap (λ m. take m (byte ∷ rest)) one

-- the line is empty if the first byte is a newline, and otherwise begins with this byte
line_of-cons : (byte : ℕ) (rest : List ℕ) → line_of (byte ∷ rest) ≡ cond (is_newline byte) [] (byte ∷ line_of rest)
line_of-cons byte rest = take-cond (is_newline byte) (position_or_len is_newline rest) byte rest

-- the line of bytes that begin with a newline is empty
line_of-newline : (byte : ℕ) (rest : List ℕ) → is_newline byte ≡ true → line_of (byte ∷ rest) ≡ []
line_of-newline byte rest is = line_of-cons byte rest ∙ ap (λ test. cond test [] (byte ∷ line_of rest)) is

-- the line of bytes that begin with another byte begins with this byte
line_of-other : (byte : ℕ) (rest : List ℕ) → is_newline byte ≡ false → line_of (byte ∷ rest) ≡ byte ∷ line_of rest
line_of-other byte rest is = line_of-cons byte rest ∙ ap (λ test. cond test [] (byte ∷ line_of rest)) is

-- a chunk without a newline does not end the line
pub IsOpen-no_newline : (chunk : List ℕ)
    → ((k : ℕ) → k < length chunk → is_newline (get_or chunk k 0) ≡ true → ⊥) → IsOpen chunk
IsOpen-no_newline [] nowhere rest = refl
IsOpen-no_newline (byte ∷ chunk) nowhere rest =
    elim (cases_Bool (is_newline byte)) [
      | inl is ↦ absurd (nowhere 0 (omega arith) is)
      | inr other ↦
          line_of-other byte (chunk ++ rest) other
          ∙ ap (λ t. byte ∷ t) (IsOpen-no_newline chunk (λ k within. nowhere (suc k) (omega (arith, within))) rest)
    ]

-- if a chunk has its first newline at `end`, the line ends there, whichever bytes follow the chunk
line_of-append : (chunk : List ℕ) (end : ℕ)
    → end < length chunk → IsOpen (take end chunk) → is_newline (get_or chunk end 0) ≡ true
    → (rest : List ℕ) → line_of (chunk ++ rest) ≡ take end chunk
line_of-append chunk end within goes_on is rest =
    let after = drop (suc end) chunk in
    ap (λ c. line_of (c ++ rest)) (split_at chunk end 0 within)
    ∙ ap line_of (append_assoc (take end chunk) (get_or chunk end 0 ∷ after) rest)
    ∙ goes_on (get_or chunk end 0 ∷ (after ++ rest))
    ∙ ap (λ line. take end chunk ++ line) (line_of-newline (get_or chunk end 0) (after ++ rest) is)
    ∙ append-nil (take end chunk)

-- the part of the line that is in a chunk ends before its first newline
pub TakesPart-newline : (chunk : List ℕ) (end : ℕ)
    → end < length chunk → ((k : ℕ) → k < end → is_newline (get_or chunk k 0) ≡ true → ⊥)
    → is_newline (get_or chunk end 0) ≡ true → TakesPart true chunk (take end chunk)
TakesPart-newline chunk end within nowhere is =
    let shorter : length (take end chunk) ≡ end = length-take-le end chunk (omega (arith, within)) in
    let goes_on : IsOpen (take end chunk) =
    IsOpen-no_newline (take end chunk) (λ k below passes. (
    let before : k < end = omega (arith, below, shorter) in
    nowhere k before (ap is_newline (sym (get_or-take end chunk k 0 before)) ∙ passes)
    )) in
    let line : line_of chunk ≡ take end chunk =
    ap line_of (sym (append-nil chunk)) ∙ line_of-append chunk end within goes_on is [] in
    (sym line, (λ rest. line_of-append chunk end within goes_on is rest ∙ sym line), omega (arith, shorter, within))
