-- Flattening the components of a Compose, which may create a vector from vectors.
pub mod Leaves
pub mod Coming
use Rattle.std.specs.Prelude.{ℕ, ◌<◌, List, [], ◌∷◌, ◌++◌, All, IfSome, Option, Some, None, option_and_then, length, replicate, take}
use Rattle.std.specs.Option.{option_map_or}
use Rattle.std.specs.List.{flat_map}
use Rattle.naga_arena.specs.declared.span.Span.{Span}
use Rattle.naga_kinds.specs.Scalar.{components_of}
use Rattle.naga_ir.specs.declared.expression.Expression.{Expression}
use Rattle.naga_ir.specs.Expression.{compose_of, splat_of}
use Rattle.naga_ir.specs.declared.types.Type.{«Type» as DeclaredType}
use Rattle.naga_ir.specs.declared.types.TypeInner.{TypeInner}
use Rattle.naga_ir.specs.declared.types.TypeInner.TheVariants.{Vector}
use Rattle.naga_arena.specs.Arena.{value_at}
use Rattle.naga_proc.specs.declared.flatten.Repeat.{Repeat}

-- ---- one level

-- the type and the components of the Compose with this handle, or `None` if there is none
abbrev pub compose_at : List (Expression × Span) → ℕ → Option (ℕ × List ℕ)
compose_at arena handle = option_and_then compose_of (value_at arena handle)

-- the size and the value of the Splat with this handle, or `None` if there is none
abbrev pub splat_at : List (Expression × Span) → ℕ → Option (ℕ × ℕ)
splat_at arena handle = option_and_then splat_of (value_at arena handle)

module _ (arena : List (Expression × Span)) where
  -- the components of a Compose, of whatever type; for every other handle, the handle itself
  abbrev pub parts : ℕ → List ℕ
  parts handle = option_map_or (λ compose. compose.1) (compose_at arena handle) (handle ∷ [])

  -- the value of a Splat, repeated as many times as its size; for every other handle, the handle itself
  abbrev pub copies : ℕ → List ℕ
  copies handle = option_map_or (λ splat. replicate splat.0 splat.1) (splat_at arena handle) (handle ∷ [])

  -- the list with each handle replaced by its parts
  abbrev pub opened : List ℕ → List ℕ
  opened = flat_map parts

  -- the list with each handle replaced by its copies
  abbrev pub spread : List ℕ → List ℕ
  spread = flat_map copies

-- ---- all levels

-- the number of components of a vector type, or `None` for any other type
abbrev pub vector_size : TypeInner → Option ℕ
vector_size (Vector size scalar) = Some (components_of size)
vector_size _ = None

-- the number of components of the type with this handle, or `None` if it is not a vector type
abbrev pub size_at : List (DeclaredType × Span) → ℕ → Option ℕ
size_at types ty = option_and_then (λ type. vector_size type.inner) (value_at types ty)

-- For a vector type, the components are opened twice, each Splat is spread, and the list is truncated to the size of
-- the vector. For any other type, the components are unchanged.
abbrev pub flattened : List (DeclaredType × Span) → List (Expression × Span) → ℕ → List ℕ → List ℕ
flattened types arena ty components =
    option_map_or
    (λ size. take size (spread arena (opened arena (opened arena components))))
    (size_at types ty)
    components

-- the handles are in the arena
abbrev pub AreIn : List (Expression × Span) → List ℕ → Type 0
AreIn arena handles = All (λ handle. handle < length arena) handles

-- the components, the components opened once, and the components opened twice are in the arena
pub record LevelsAreIn (arena : List (Expression × Span)) (components : List ℕ) : Type 0 where
  pub components_in : AreIn arena components
  pub opened_once : AreIn arena (opened arena components)
  pub opened_twice : AreIn arena (opened arena (opened arena components))

-- everything that flattening looks up is there
abbrev pub CanFlatten : List (DeclaredType × Span) → List (Expression × Span) → ℕ → List ℕ → Type 0
CanFlatten types arena ty components = IfSome (size_at types ty) (λ size. LevelsAreIn arena components)

-- ---- remaining handles

-- the remaining copies of a value
abbrev pub copies_left : Option Repeat → List ℕ
copies_left (Some repeat) = replicate repeat.left repeat.value
copies_left None = []

-- the handles that are still yielded from the open levels: those of the inner level as they are, of the middle level
-- opened once, and of the outer level opened twice
abbrev pub yielded : List (Expression × Span) → List ℕ → List ℕ → List ℕ → List ℕ
yielded arena inner middle outer = inner ++ opened arena (middle ++ opened arena outer)

-- the handles of the open levels are in the arena: of the inner level as they are, of the middle level also when opened
-- once, and of the outer level also when opened once and twice
pub record AreLevels (arena : List (Expression × Span)) (inner middle outer : List ℕ) : Type 0 where
  pub outer_in : AreIn arena outer
  pub middle_in : AreIn arena (middle ++ opened arena outer)
  pub inner_in : AreIn arena (inner ++ opened arena (middle ++ opened arena outer))
