-- The paths of pointers lead to their origins.
use Rattle.std.proofs.Common.{◌≡◌, ℕ, List, [], ◌∷◌, Option, Some, None, refl, sym, subst}
use Rattle.std.specs.Prelude.{option_and_then}
use Rattle.std.specs.List.{last_or}
use Rattle.naga_arena.specs.Arena.{value_at}
use Rattle.naga_arena.specs.declared.span.Span.{Span}
use Rattle.naga_ir.specs.declared.expression.Expression.{Expression}
use Rattle.naga_ir.specs.Chain.{OriginatesIn, next_base}
use Rattle.naga_kinds.specs.Path.{Path, ends, passes}
use Rattle.naga_ir.specs.Expression.{global_of}

pub OriginatesIn-here : (arena : List (Expression × Span)) (pointer : ℕ) → next_base arena pointer ≡ None → OriginatesIn arena pointer (option_and_then global_of (value_at arena pointer))
OriginatesIn-here arena pointer none =
    (pointer ∷ [], passes (subst (λ next. Path (next_base arena) next []) (sym none) ends), refl)

OriginatesIn-passes : (arena : List (Expression × Span)) (pointer base : ℕ) (global : Option ℕ) {path : List ℕ} → next_base arena pointer ≡ Some base → Path (next_base arena) (Some base) path → global ≡ option_and_then (λ handle. option_and_then global_of (value_at arena handle)) (last_or None path) → OriginatesIn arena pointer global
OriginatesIn-passes arena pointer base global further (passes {later = later} rest) is =
    (pointer ∷ base ∷ later, passes (subst (λ next. Path (next_base arena) next (base ∷ later)) (sym further) (passes rest)), is)

pub OriginatesIn-further : (arena : List (Expression × Span)) (pointer base : ℕ) (global : Option ℕ) → next_base arena pointer ≡ Some base → OriginatesIn arena base global → OriginatesIn arena pointer global
OriginatesIn-further arena pointer base global further origin = OriginatesIn-passes arena pointer base global further origin.1 origin.2
