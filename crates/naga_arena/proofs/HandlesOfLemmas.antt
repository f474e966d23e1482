-- The handles of a range as a list.
use Rattle.std.proofs.Common.{◌≡◌, ℕ, zero, suc, ◌+◌, ◌-◌, ◌<◌, [], ◌∷◌, ◌++◌, length, ap, ◌∙◌, arith}
use Rattle.std.specs.List.{range_with_len}
use Rattle.std.proofs.lemmas.List.FromFn.{length-range_with_len}
use Rattle.naga_arena.specs.Range.{handles_of}

-- the number of handles is the difference of the bounds
pub length-handles_of : (range : ℕ × ℕ) → length (handles_of range) ≡ range.1 - range.0
length-handles_of range = length-range_with_len range.0 (range.1 - range.0)

-- a range with one more number has that number at the end
pub range_with_len-suc : (a n last : ℕ) → a + n ≡ last → range_with_len a (suc n) ≡ range_with_len a n ++ last ∷ []
range_with_len-suc a zero last e = let here : a ≡ last = omega arith in ap (λ k. k ∷ []) here
range_with_len-suc a (suc n) last e = ap (λ ks. a ∷ ks) (range_with_len-suc (a + 1) n last (omega arith))

-- the handles of a range are those before the last one, followed by the last one
pub handles_of-last : (a b last : ℕ) → a < b → last ≡ b - 1 → handles_of (a, b) ≡ handles_of (a, last) ++ last ∷ []
handles_of-last a b last h e =
    let one_more : b - a ≡ suc (last - a) = omega arith in
    ap (range_with_len a) one_more ∙ range_with_len-suc a (last - a) last (omega arith)

pub ruleset handles = (length-handles_of, handles_of-last)
