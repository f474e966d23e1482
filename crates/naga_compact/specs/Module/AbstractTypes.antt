-- The abstract types of a module.
use Rattle.std.specs.Prelude.{ℕ, zero, suc, List, length, Bool, true, false, Option, Some, None}
use Rattle.std.specs.Option.{option_map_or}
use Rattle.naga_arena.specs.declared.span.Span.{Span}
use Rattle.naga_kinds.specs.declared.scalar.ScalarKind.{ScalarKind}
use Rattle.naga_kinds.specs.declared.scalar.ScalarKind.TheVariants.{AbstractInt, AbstractFloat}
use Rattle.naga_ir.specs.MeshOutput.{inner_of}
use Rattle.naga_ir.specs.declared.types.«Type».{«Type» as NamedType}
use Rattle.naga_ir.specs.declared.types.TypeInner.{TypeInner}
use Rattle.naga_ir.specs.declared.types.TypeInner.TheVariants.{Scalar, Vector, Matrix, Array}

abbrev pub is_abstract_kind : ScalarKind → Bool
is_abstract_kind AbstractInt = true
is_abstract_kind AbstractFloat = true
is_abstract_kind _ = false

-- a scalar, a vector or a matrix whose kind is abstract
abbrev pub has_abstract_kind : Option TypeInner → Bool
has_abstract_kind (Some (Scalar scalar)) = is_abstract_kind scalar.kind
has_abstract_kind (Some (Vector size scalar)) = is_abstract_kind scalar.kind
has_abstract_kind (Some (Matrix columns rows scalar)) = is_abstract_kind scalar.kind
has_abstract_kind _ = false

-- the base of an array
abbrev pub array_base : Option TypeInner → Option ℕ
array_base (Some (Array base size stride)) = Some base
array_base _ = None

-- the type that is reached by going from an array to its base, at most this many times
abbrev pub innermost : (steps : ℕ) → List (NamedType × Span) → ℕ → ℕ
innermost zero types handle = handle
innermost (suc steps) types handle = option_map_or (innermost steps types) (array_base (inner_of types handle)) handle

-- A type is abstract if its innermost type has an abstract kind. Only an array that contains itself has more arrays
-- inside it than there are types.
abbrev pub is_abstract : List (NamedType × Span) → ℕ → Bool
is_abstract types handle = has_abstract_kind (inner_of types (innermost (length types) types handle))
