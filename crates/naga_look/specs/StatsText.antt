-- What passes did, as text.
use Rattle.std.specs.Prelude.{ℕ, ◌==◌, if◌then◌else◌, List, [], ◌∷◌, ◌++◌, codes, flat_map}
use Rattle.std.specs.Fmt.{decimal}
use Rattle.std.specs.List.{join_by}
use Rattle.naga_passes.specs.Pass.{name_of}
use Rattle.naga_look.specs.declared.stats.PassCounts.{PassCounts}
use Rattle.naga_look.specs.declared.stats.contents.Contents.{Contents}

-- the number and what it counts, in the singular or the plural, or nothing if the number is 0
abbrev pub phrase : ℕ → (one many : List ℕ) → List (List ℕ)
phrase count one many =
    if count == 0 then [] else ((decimal count ++ (codes " " ++ (if count == 1 then one else many))) ∷ [])

-- the phrases, with a comma and a space between each two
abbrev pub listed : List (List ℕ) → List ℕ
listed phrases = join_by (λ (text : List ℕ). text) (codes ", ") phrases

-- the phrases of the contents of bodies and of functions
abbrev pub body_phrases : Contents → List (List ℕ)
body_phrases removed =
    phrase removed.statements (codes "statement") (codes "statements")
    ++ (phrase removed.functions (codes "function") (codes "functions")
    ++ phrase removed.expressions (codes "expression") (codes "expressions"))

-- the phrases of the other declarations
abbrev pub declaration_phrases : Contents → List (List ℕ)
declaration_phrases removed =
    phrase removed.types (codes "type") (codes "types")
    ++ (phrase removed.constants (codes "constant") (codes "constants")
    ++ (phrase removed.overrides (codes "override") (codes "overrides")
    ++ (phrase removed.global_variables (codes "global variable") (codes "global variables")
    ++ phrase removed.global_expressions (codes "global expression") (codes "global expressions"))))

-- what was removed: nothing, or one phrase
abbrev pub removed_phrases : List (List ℕ) → List (List ℕ)
removed_phrases [] = []
removed_phrases (first ∷ others) = (listed (first ∷ others) ++ codes " removed") ∷ []

-- what was removed, and the returns and the expressions that were inserted
abbrev pub change_phrases : PassCounts → List (List ℕ)
change_phrases counts =
    removed_phrases (declaration_phrases counts.removed ++ body_phrases counts.removed)
    ++ (phrase counts.returns_inserted (codes "return inserted") (codes "returns inserted")
    ++ phrase counts.expressions_inserted (codes "expression inserted") (codes "expressions inserted"))

-- the changes, or `nothing` if there are none
abbrev pub changes_text : List (List ℕ) → List ℕ
changes_text [] = codes "nothing"
changes_text (first ∷ others) = listed (first ∷ others)

-- the name of the pass, and what it changed
abbrev pub counts_line : PassCounts → List ℕ
counts_line counts = name_of counts.pass ++ (codes ": " ++ (changes_text (change_phrases counts) ++ codes "\n"))

-- a line for each pass
abbrev pub counts_text : List PassCounts → List ℕ
counts_text counts = flat_map counts_line counts
