-- The texts of what an expression or a statement refers to.
use Rattle.std.specs.Prelude.{◌≡◌, ℕ, List, [], ◌++◌, codes, flat_map}
use Rattle.std.specs.Fmt.{decimal}
use Rattle.std.specs.ControlFlow.{MatchControlFlow}
use Rattle.naga_valid.specs.Visits.{Step}
use Rattle.naga_valid.specs.declared.reference.Reference.{Reference}
use Rattle.naga_valid.specs.declared.reference.Reference.TheVariants as reference

-- an index with a text before and after it
abbrev pub between : List ℕ → ℕ → List ℕ → List ℕ
between before index after = before ++ (decimal index ++ after)

-- a reference, with a space before it: the index of an expression in brackets, and that of anything else after its kind
abbrev pub reference_text : Reference → List ℕ
reference_text (reference.«Type» index) = between (codes " type ") index []
reference_text (reference.Constant index) = between (codes " constant ") index []
reference_text (reference.Override index) = between (codes " override ") index []
reference_text (reference.GlobalVariable index) = between (codes " global ") index []
reference_text (reference.GlobalExpression index) = between (codes " [") index (codes "]")
reference_text (reference.Expression index) = between (codes " [") index (codes "]")
reference_text (reference.Expressions start bound) = codes " [" ++ (decimal start ++ between (codes "..") bound (codes "]"))
reference_text (reference.LocalVariable index) = between (codes " local ") index []
reference_text (reference.Function index) = between (codes " function ") index []
reference_text (reference.DiagnosticFilter index) = between (codes " filter ") index []

-- references, one after another
abbrev pub references_text : List Reference → List ℕ
references_text = flat_map reference_text

-- the text of the reference is appended, or allocation fails
abbrev pub appends : {E : Type 0} → Step E (List ℕ)
appends old to answer new = MatchControlFlow answer (λ _. new ≡ old ++ reference_text to) (λ _. Unit {0})
