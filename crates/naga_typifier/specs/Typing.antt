-- The types of the expressions of an arena, each from the types of those before it.
use Rattle.std.specs.Prelude.{◌≡◌, ⊤, List, [], ◌∷◌, ◌++◌, Option, Some, None, length, slice_get}
use Rattle.naga_ir.specs.declared.expression.Expression.{Expression}
use Rattle.naga_typifier.specs.Context.{Context}
use Rattle.naga_typifier.specs.Faults.{fault_of}
use Rattle.naga_typifier.specs.Table.{type_of}
use Rattle.naga_typifier.specs.declared.resolution.TypeResolution.{TypeResolution}
use Rattle.naga_typifier.specs.declared.resolve_error.ResolveError.{ResolveError}
use Rattle.naga_typifier.specs.declared.typifier.GrowError.{GrowError}
use Rattle.naga_typifier.specs.declared.typifier.GrowError.TheVariants.{NoType, Memory}

-- the known types and then those of these expressions, up to the first that has none, with the error of that one
abbrev pub typing : Context → List TypeResolution → List Expression → List TypeResolution × Option ResolveError
typing ctx known [] = (known, None)
typing ctx known (expression ∷ rest) =
    elim (type_of ctx (slice_get known) expression) as (λ _. List TypeResolution × Option ResolveError) [
      | None ↦ (known, Some (fault_of ctx (slice_get known) expression))
      | Some ty ↦ typing ctx (known ++ ty ∷ []) rest
    ]

-- The error is that of the first of these expressions that has no type, and the types before it are known. If an
-- allocation failed, nothing is said here.
abbrev pub IsStopped : Context → (old : List TypeResolution) → List Expression → GrowError
    → (new : List TypeResolution) → Type 0
IsStopped ctx old expressions (NoType expression error) new =
    (expression ≡ length new) × (typing ctx old expressions ≡ (new, Some error))
IsStopped ctx old expressions Memory new = ⊤
