-- Lists of names of passes: lemmas on specs/Names.antt.
use Rattle.std.proofs.Common.{◌≡◌, ◌∙◌, sym, ap, ℕ, ◌<◌, ◌==◌, List, [], ◌∷◌, length, map, arith}
use Rattle.std.proofs.lemmas.List.Splits.{slice_split_first, slice_split_none}
use Rattle.std.proofs.lemmas.List.Sums.{fails_before_first}
use Rattle.std.specs.List.{after_first, before_first, position_or_len}
use Rattle.std.specs.Str.{trim}
use Rattle.naga_passes.specs.Names.{comma, names_in}

-- ---- the first name of a list

-- the position of the first comma, or the length
abbrev first_comma : List ℕ → ℕ
first_comma text = position_or_len (λ byte. byte == comma) text

-- a text without a comma is one name
pub names_in-one : (text name : List ℕ) → name ≡ trim text → first_comma text ≡ length text → names_in text ≡ name ∷ []
names_in-one text name is none =
    ap (map trim) (slice_split_none (λ byte. byte == comma) text (λ k d inside. fails_before_first (λ byte. byte == comma) text k d (omega (arith, none))))
    ∙ ap (λ name. name ∷ []) (sym is)

-- the first name ends before the first comma, and the others are those after it
pub names_in-first : (text part name others : List ℕ) → name ≡ trim part → part ≡ before_first (λ byte. byte == comma) text → others ≡ after_first (λ byte. byte == comma) text → first_comma text < length text → names_in text ≡ name ∷ names_in others
names_in-first text part name others is before after found =
    ap (map trim) (slice_split_first (λ byte. byte == comma) text 0 found)
    ∙ (λ i. ((λ j. trim (sym before j)) ∙ sym is) i ∷ names_in (sym after i))
