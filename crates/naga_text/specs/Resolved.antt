-- The types of expressions, in WGSL's words where it has them.
use Rattle.std.specs.Prelude.{ℕ, ◌*◌, List, [], ◌++◌, Option, Some, None, codes}
use Rattle.std.specs.Fmt.{decimal}
use Rattle.naga_arena.specs.Arena.{value_at, values}
use Rattle.naga_arena.specs.declared.span.Span.{Span}
use Rattle.naga_kinds.specs.Scalar.{components_of}
use Rattle.naga_kinds.specs.derived.Names.{cooperative_role_name}
use Rattle.naga_kinds.specs.declared.address_space.AddressSpace.{AddressSpace}
use Rattle.naga_kinds.specs.declared.address_space.AddressSpace.TheVariants as space
use Rattle.naga_kinds.specs.declared.scalar.CooperativeRole.{CooperativeRole}
use Rattle.naga_kinds.specs.declared.scalar.CooperativeSize.{CooperativeSize}
use Rattle.naga_kinds.specs.declared.scalar.CooperativeSize.TheVariants.{Eight, Sixteen}
use Rattle.naga_kinds.specs.declared.scalar.Scalar.{Scalar}
use Rattle.naga_kinds.specs.declared.scalar.ScalarKind.TheVariants as kind
use Rattle.naga_kinds.specs.declared.scalar.VectorSize.{VectorSize}
use Rattle.naga_ir.specs.declared.module.Function.{Function}
use Rattle.naga_ir.specs.declared.module.Module.{Module}
use Rattle.naga_ir.specs.declared.types.«Type».{«Type» as Declared}
use Rattle.naga_ir.specs.declared.types.TypeInner.{TypeInner}
use Rattle.naga_ir.specs.declared.types.TypeInner.TheVariants as type
use Rattle.naga_typifier.specs.Context.{context_in}
use Rattle.naga_typifier.specs.Typing.{typing}
use Rattle.naga_typifier.specs.declared.resolution.TypeResolution.{TypeResolution}
use Rattle.naga_typifier.specs.declared.resolution.TypeResolution.TheVariants as resolution
use Rattle.naga_text.specs.Types.{type_text}
use Rattle.naga_text.specs.Words.{quoted, word}
use Rattle.naga_valid.specs.ElementNames.{text_of}

-- ---- the types of a function's expressions

-- the types of the expressions of a function, up to the first that has no type
abbrev pub types_in : Module → Function → List TypeResolution
types_in owner function = (typing (context_in owner function) [] (values function.expressions)).0

-- ---- scalars, vectors and matrices

-- a letter, and the number of bits in some bytes
abbrev pub sized : List ℕ → ℕ → List ℕ
sized letter width = letter ++ decimal (width * 8)

-- a scalar: `i32`, say
abbrev pub scalar_words : Scalar → List ℕ
scalar_words scalar = elim (scalar.kind) as (λ _. List ℕ) [
  | kind.Sint ↦ sized (codes "i") scalar.width
  | kind.Uint ↦ sized (codes "u") scalar.width
  | kind.Float ↦ sized (codes "f") scalar.width
  | kind.Bool ↦ codes "bool"
  | kind.AbstractInt ↦ codes "AbstractInt"
  | kind.AbstractFloat ↦ codes "AbstractFloat"
]

abbrev pub bracketed : List ℕ → List ℕ
bracketed inner = codes "<" ++ (inner ++ codes ">")

-- a vector: `vec4<f32>`, say
abbrev pub vector_text : VectorSize → Scalar → List ℕ
vector_text size scalar = codes " vec" ++ (decimal (components_of size) ++ bracketed (scalar_words scalar))

-- the beginning of a matrix: `mat4x3`, say
abbrev pub matrix_size_text : (columns rows : VectorSize) → List ℕ
matrix_size_text columns rows = codes " mat" ++ (decimal (components_of columns) ++ (codes "x" ++ decimal (components_of rows)))

abbrev pub cooperative_digits : CooperativeSize → List ℕ
cooperative_digits Eight = codes "8"
cooperative_digits Sixteen = codes "16"

-- the beginning of a cooperative matrix: `coop_mat8x8`, say
abbrev pub cooperative_size_text : (columns rows : CooperativeSize) → List ℕ
cooperative_size_text columns rows = codes " coop_mat" ++ (cooperative_digits columns ++ (codes "x" ++ cooperative_digits rows))

-- the contents of a cooperative matrix: `<f32, A>`, say
abbrev pub cooperative_contents_text : Scalar → CooperativeRole → List ℕ
cooperative_contents_text scalar role = codes "<" ++ (scalar_words scalar ++ (codes "," ++ (word (cooperative_role_name role) ++ codes ">")))

-- a vector, or a scalar if there is no size
abbrev pub value_text : Option VectorSize → Scalar → List ℕ
value_text (Some size) scalar = vector_text size scalar
value_text None scalar = word (scalar_words scalar)

-- ---- types

-- the handle of a type, or a question mark if it has none
abbrev pub unnamed_text : Option ℕ → List ℕ
unnamed_text (Some handle) = type_text handle
unnamed_text None = codes " ?"

-- the contents of a type that is no pointer, or its handle where there are no words for them
abbrev pub plain_text : (handle : Option ℕ) → TypeInner → List ℕ
plain_text handle (type.Scalar scalar) = word (scalar_words scalar)
plain_text handle (type.Vector size scalar) = vector_text size scalar
plain_text handle (type.Matrix columns rows scalar) = matrix_size_text columns rows ++ bracketed (scalar_words scalar)
plain_text handle (type.CooperativeMatrix columns rows scalar role) =
    cooperative_size_text columns rows ++ cooperative_contents_text scalar role
plain_text handle (type.Atomic scalar) = codes " atomic" ++ bracketed (scalar_words scalar)
plain_text handle _ = unnamed_text handle

-- an address space as WGSL writes it, and in the same way where it has no such space
abbrev pub space_words : AddressSpace → List ℕ
space_words space.Function = codes "function"
space_words space.Private = codes "private"
space_words space.WorkGroup = codes "workgroup"
space_words space.Uniform = codes "uniform"
space_words (space.Storage access) = codes "storage"
space_words space.Handle = codes "handle"
space_words space.Immediate = codes "immediate"
space_words space.TaskPayload = codes "task_payload"
space_words space.RayPayload = codes "ray_payload"
space_words space.IncomingRayPayload = codes "incoming_ray_payload"

abbrev pub pointer_start : AddressSpace → List ℕ
pointer_start space = codes " ptr<" ++ (space_words space ++ codes ",")

-- a pointer into an address space: `ptr<storage, type 3>`, say
abbrev pub pointer_text : AddressSpace → (base : List ℕ) → List ℕ
pointer_text space base = pointer_start space ++ (base ++ codes ">")

-- a type of the module: its name in quotes or, if it has none, this text
abbrev pub named_type_text : Declared → List ℕ → List ℕ
named_type_text declared unnamed = elim (text_of declared.name) as (λ _. List ℕ) [ Some name ↦ quoted name | None ↦ unnamed ]

module _ (types : List (Declared × Span)) where
  -- a type to which something points
  abbrev pub base_text : ℕ → List ℕ
  base_text base = elim (value_at types base) as (λ _. List ℕ) [
    | None ↦ type_text base
    | Some declared ↦ named_type_text declared (plain_text (Some base) declared.inner)
  ]

  -- the contents of a type, or its handle where there are no words for them
  abbrev pub full_text : (handle : Option ℕ) → TypeInner → List ℕ
  full_text handle (type.Pointer base space) = pointer_text space (base_text base)
  full_text handle (type.ValuePointer size scalar space) = pointer_text space (value_text size scalar)
  full_text handle inner = plain_text handle inner

  -- the type with this handle
  abbrev pub declared_type_text : ℕ → List ℕ
  declared_type_text handle = elim (value_at types handle) as (λ _. List ℕ) [
    | None ↦ type_text handle
    | Some declared ↦ named_type_text declared (full_text (Some handle) declared.inner)
  ]

  -- the type of an expression, or a question mark if it has none
  abbrev pub resolved_text : Option TypeResolution → List ℕ
  resolved_text None = codes " ?"
  resolved_text (Some (resolution.Handle handle)) = declared_type_text handle
  resolved_text (Some (resolution.Value inner)) = full_text None inner
