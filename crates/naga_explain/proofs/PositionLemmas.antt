-- Lines and columns: lemmas on specs/Position.antt.
use Rattle.std.proofs.Common.{◌≡◌, ◌∙◌, ap, ℕ, ◌+◌, ◌<◌, List, [], ◌∷◌, true, false, cond, not, take, reverse, length, get_or, arith}
use Rattle.std.proofs.lemmas.List.{reverse-append, take_more}
use Rattle.std.proofs.lemmas.List.Sums.{sum_by-cons, take_while-cons}
use Rattle.std.specs.Fmt.{is_char_start}
use Rattle.std.specs.List.{count_by, take_while}
use Rattle.naga_explain.specs.Position.{is_newline, since_newline}

-- the number of characters after the last newline
abbrev pub since : List ℕ → ℕ
since front = count_by is_char_start (since_newline front)

module _ (xs : List ℕ) (i : ℕ) (before : i < length xs) where
  -- the byte at the position
  abbrev pub next : ℕ
  next = get_or xs i 0

  since_newline-more : since_newline (take (i + 1) xs) ≡ cond (not (is_newline next)) (next ∷ since_newline (take i xs)) []
  since_newline-more =
      ap (take_while (λ byte. not (is_newline byte))) (ap reverse (take_more xs i 0 before) ∙ reverse-append (take i xs) (next ∷ []))
      ∙ take_while-cons (λ byte. not (is_newline byte)) next (reverse (take i xs))

  -- a newline
  pub since-newline : is_newline next ≡ true → since (take (i + 1) xs) ≡ 0
  since-newline new = ap (count_by is_char_start) (since_newline-more ∙ ap (λ c. cond (not c) (next ∷ since_newline (take i xs)) []) new)

  since-other : is_newline next ≡ false → since (take (i + 1) xs) ≡ cond (is_char_start next) 1 0 + since (take i xs)
  since-other other =
      ap (count_by is_char_start) (since_newline-more ∙ ap (λ c. cond (not c) (next ∷ since_newline (take i xs)) []) other)
      ∙ sum_by-cons (λ x. cond (is_char_start x) 1 0) next (since_newline (take i xs))

  -- the first byte of another character
  pub since-start : is_newline next ≡ false → is_char_start next ≡ true → since (take (i + 1) xs) ≡ since (take i xs) + 1
  since-start other start = since-other other ∙ (ap (λ c. cond c 1 0 + since (take i xs)) start ∙ omega arith)

  -- a later byte of a character
  pub since-inside : is_newline next ≡ false → is_char_start next ≡ false → since (take (i + 1) xs) ≡ since (take i xs)
  since-inside other inside = since-other other ∙ (ap (λ c. cond c 1 0 + since (take i xs)) inside ∙ omega arith)
