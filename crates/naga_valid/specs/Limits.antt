-- How far the handles of a part of a module may go.
use Rattle.std.specs.Prelude.{◌<◌, ◌≤◌, ℕ, List, All, Option, MatchOption}
use Rattle.std.specs.List.{Contains}
use Rattle.naga_valid.specs.declared.limits.Limits.{Limits}
use Rattle.naga_valid.specs.declared.reference.Reference.{Reference}
use Rattle.naga_valid.specs.declared.reference.Reference.TheVariants.{«Type», Constant, Override, GlobalVariable, GlobalExpression, Expression, Expressions, LocalVariable, Function, DiagnosticFilter}

-- the handle is below the limit of its arena; a range is not inverted, and does not end after the limit
abbrev pub IsWithin : Limits → Reference → Type 0
IsWithin limits («Type» handle) = handle < limits.types
IsWithin limits (Constant handle) = handle < limits.constants
IsWithin limits (Override handle) = handle < limits.overrides
IsWithin limits (GlobalVariable handle) = handle < limits.global_variables
IsWithin limits (GlobalExpression handle) = handle < limits.global_expressions
IsWithin limits (Expression handle) = handle < limits.expressions
IsWithin limits (Expressions first past) = (first ≤ past) × (past ≤ limits.expressions)
IsWithin limits (LocalVariable handle) = handle < limits.local_variables
IsWithin limits (Function handle) = handle < limits.functions
IsWithin limits (DiagnosticFilter handle) = handle < limits.diagnostic_filters

-- each handle and range of the list is within its limits
abbrev pub AreWithin : Limits → List Reference → Type 0
AreWithin limits = All (IsWithin limits)

-- the answer is a handle of the list for which `P` does not hold, or `None` if `P` holds for each handle of the list
abbrev pub FindsUnlike : (P : Reference → Type 0) → List Reference → Option Reference → Type 0
FindsUnlike P references answer = MatchOption answer (All P references) (λ handle. Contains references handle × ¬ P handle)

-- the answer is a handle of the list that is not within the limits, or `None` if there is no such handle
abbrev pub FindsOutside : Limits → List Reference → Option Reference → Type 0
FindsOutside limits = FindsUnlike (IsWithin limits)

-- the answer is the index of an element with a handle that is not within the limits for this index, and that handle, or
-- `None` if there is no such element; each entry is an index with its element
abbrev pub FindsElement : {X : Type 0} → (X → List Reference) → (ℕ → Limits) → List (ℕ × X) → Option (ℕ × Reference) → Type 0
FindsElement {X} references limits entries answer =
    MatchOption answer (All (λ entry. AreWithin (limits entry.0) (references entry.1)) entries)
    (λ found. (element : X) × Contains entries (found.0, element) × Contains (references element) found.1 × ¬ IsWithin (limits found.0) found.1)
