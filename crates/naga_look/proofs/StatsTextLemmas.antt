-- The text of what passes did: lemmas on specs/StatsText.antt.
use Rattle.std.proofs.Common.{◌≡◌, ◌∙◌, sym, ap, refl, ℕ, List, [], ◌∷◌, ◌++◌, length, map}
use Rattle.std.proofs.lemmas.List.Folds.{flat_map-map}
use Rattle.std.specs.Prelude.{◌==◌, IfOk, Result, Ok, Err, String, codes, false, string_bytes}
use Rattle.std.specs.List.{join_by}
use Rattle.std.specs.declared.alloc.Global.{Global}
use Rattle.naga_look.specs.StatsText.{changes_text, listed, removed_phrases}

-- the phrases of strings
listed-strings : (items : List (String Global)) → join_by (λ (s : String Global). string_bytes s) (codes ", ") items ≡ listed (map string_bytes items)
listed-strings [] = refl
listed-strings (x ∷ xs) =
    ap (λ rest. string_bytes x ++ rest) (sym (flat_map-map (λ (text : List ℕ). codes ", " ++ text) string_bytes xs))

-- changes as text
pub changes_text-joined : {E : Type 0} (r : Result (String Global) E) (items : List (String Global)) → (length items == 0) ≡ false
    → IfOk r (λ text. string_bytes text ≡ join_by (λ (s : String Global). string_bytes s) (codes ", ") items)
    → IfOk r (λ text. string_bytes text ≡ changes_text (map string_bytes items))
changes_text-joined r [] some joined = cc
changes_text-joined (Err error) (x ∷ xs) some joined = tt
changes_text-joined (Ok text) (x ∷ xs) some joined = joined ∙ listed-strings (x ∷ xs)

-- one phrase for what was removed
pub removed_phrases-joined : (items : List (String Global)) (listed_items removed : List ℕ) → (length items == 0) ≡ false
    → listed_items ≡ join_by (λ (s : String Global). string_bytes s) (codes ", ") items → removed ≡ listed_items ++ codes " removed"
    → removed ∷ [] ≡ removed_phrases (map string_bytes items)
removed_phrases-joined [] listed_items removed some joined is = cc
removed_phrases-joined (x ∷ xs) listed_items removed some joined is =
    ap (λ text. text ∷ []) (is ∙ ap (λ text. text ++ codes " removed") (joined ∙ listed-strings (x ∷ xs)))
