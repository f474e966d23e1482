-- The expressions that an expression is made of, and the global variables in which pointers originate.
use Rattle.std.specs.Prelude.{◌≡◌, ◌<◌, ℕ, List, [], ◌∷◌, All, Option, Some, None, option_and_then}
use Rattle.std.specs.List.{enumerate_from, last_or}
use Rattle.naga_arena.specs.Arena.{value_at, values}
use Rattle.naga_arena.specs.declared.span.Span.{Span}
use Rattle.naga_kinds.specs.Path.{Path}
use Rattle.naga_ir.specs.declared.expression.Expression.{Expression}
use Rattle.naga_ir.specs.declared.expression.Expression.TheVariants.{Access, AccessIndex, Compose, Splat}
use Rattle.naga_ir.specs.Expression.{base_of, global_of}

-- ---- chains

-- the expressions that an expression is made of: the base of an access, the components of a `Compose`, or the value of
-- a `Splat`
abbrev pub made_of : Expression → List ℕ
made_of (Access base index) = base ∷ []
made_of (AccessIndex base index) = base ∷ []
made_of (Compose ty components) = components.items
made_of (Splat size value) = value ∷ []
made_of _ = []

-- an expression comes after the expressions that it is made of; `entry` is a handle with its expression
abbrev pub FollowsItsParts : ℕ × Expression → Type 0
FollowsItsParts entry = All (λ part. part < entry.0) (made_of entry.1)

-- every expression of the arena comes after the expressions that it is made of
abbrev pub ChainsPrecede : List (Expression × Span) → Type 0
ChainsPrecede arena = All FollowsItsParts (enumerate_from 0 (values arena))

-- ---- pointers

-- the base of the access with this handle, or `None` if there is no access
abbrev pub next_base : List (Expression × Span) → ℕ → Option ℕ
next_base arena handle = option_and_then base_of (value_at arena handle)

-- the path of the pointer, from base to base, ends in this global variable, or in another expression if `global` is
-- `None`
abbrev pub OriginatesIn : List (Expression × Span) → ℕ → Option ℕ → Type 0
OriginatesIn arena pointer global =
    (path : List ℕ) × Path (next_base arena) (Some pointer) path
    × (global ≡ option_and_then (λ handle. option_and_then global_of (value_at arena handle)) (last_or None path))
