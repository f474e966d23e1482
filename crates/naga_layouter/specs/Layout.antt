-- The sizes and alignments of types, in bytes. An alignment is the exponent of a power of two.
use Rattle.std.specs.Prelude.{◌≡◌, ⊤, ℕ, ◌+◌, ◌*◌, ◌^◌, List, [], ◌∷◌, ◌++◌, Option, Some, None, Result, Ok, Err, if◌then◌else◌, nat_le, length, slice_get}
use Rattle.std.proofs.Common.{max}
use Rattle.naga_arena.specs.Arena.{value_at}
use Rattle.naga_kinds.specs.Scalar.{components_of}
use Rattle.naga_kinds.specs.declared.scalar.CooperativeSize.{CooperativeSize}
use Rattle.naga_kinds.specs.declared.scalar.CooperativeSize.TheVariants.{Eight, Sixteen}
use Rattle.naga_ir.specs.Constant.{IsClosedOver, IsKnownSize, resolved}
use Rattle.naga_ir.specs.declared.global_ctx.GlobalCtx.{GlobalCtx}
use Rattle.naga_ir.specs.declared.types.ArraySize.{ArraySize}
use Rattle.naga_ir.specs.declared.types.IndexableLength.{IndexableLength}
use Rattle.naga_ir.specs.declared.types.IndexableLength.TheVariants.{Known, Dynamic}
use Rattle.naga_ir.specs.declared.types.ResolveArraySizeError.{ResolveArraySizeError}
use Rattle.naga_ir.specs.declared.types.StructMember.{StructMember}
use Rattle.naga_ir.specs.declared.types.«Type».{«Type» as NamedType}
use Rattle.naga_ir.specs.declared.types.TypeInner.{TypeInner}
use Rattle.naga_ir.specs.declared.types.TypeInner.TheVariants.{Scalar, Vector, Matrix, CooperativeMatrix, Atomic, Pointer, ValuePointer, Array, Struct}
use Rattle.naga_layouter.specs.Alignment.{alignment_of_side, alignment_of_size, alignment_of_width}
use Rattle.naga_layouter.specs.declared.layouter.TypeLayout.{TypeLayout}
use Rattle.naga_layouter.specs.declared.layout_error.LayoutError.{LayoutError}
use Rattle.naga_layouter.specs.declared.layout_error.LayoutErrorInner.{LayoutErrorInner}
use Rattle.naga_layouter.specs.declared.layout_error.LayoutErrorInner.TheVariants.{InvalidArrayElementType, InvalidStructMemberType, Memory, NonPowerOfTwoWidth, TooLarge}

-- ---- what is looked up

-- the context contains the override of the size of an array
abbrev pub IsKnownType : GlobalCtx → TypeInner → Type 0
IsKnownType ctx (Array base size stride) = IsKnownSize ctx size
IsKnownType ctx _ = ⊤

-- the context contains the overrides of the sizes of all arrays
abbrev pub KnowsOverrides : GlobalCtx → Type 0
KnowsOverrides ctx = (handle : ℕ) (type : NamedType) → value_at ctx.types.now handle ≡ Some type → IsKnownType ctx type.inner

-- the context contains all that the sizes of its types need: those overrides, and what their values refer to
pub record SizesAreKnown (ctx : GlobalCtx) : Type 0 where
  pub known : KnowsOverrides ctx
  pub closed : IsClosedOver ctx ctx.global_expressions.now

-- ---- sizes

-- the number of elements of a resolved length: one if it is not known
abbrev pub count_of_length : Result IndexableLength ResolveArraySizeError → ℕ
count_of_length (Ok (Known count)) = count
count_of_length (Ok Dynamic) = 1
count_of_length (Err error) = 1

-- the number of elements with which an array is sized
abbrev pub count_of : GlobalCtx → ArraySize → ℕ
count_of ctx size = count_of_length (resolved ctx size)

-- the size of an array, or `None` above 2 ^ 30
abbrev pub bounded : (count stride : ℕ) → Option ℕ
bounded count stride = if nat_le (count * stride) 1073741824 then Some (count * stride) else None

-- the number of columns or rows of a cooperative matrix
abbrev pub side_of : CooperativeSize → ℕ
side_of Eight = 8
side_of Sixteen = 16

-- the size of the values of a type, or `None` for an array that is too large; what is opaque has size 0
abbrev pub size_of : GlobalCtx → TypeInner → Option ℕ
size_of ctx (Scalar scalar) = Some scalar.width
size_of ctx (Atomic scalar) = Some scalar.width
size_of ctx (Vector size scalar) = Some (components_of size * scalar.width)
size_of ctx (Matrix columns rows scalar) = Some (components_of columns * (2 ^ alignment_of_size rows * scalar.width))
size_of ctx (CooperativeMatrix columns rows scalar role) = Some (side_of columns * (side_of rows * scalar.width))
size_of ctx (Pointer base space) = Some 4
size_of ctx (ValuePointer size scalar space) = Some 4
size_of ctx (Array base size stride) = bounded (count_of ctx size) stride
size_of ctx (Struct members span) = Some span
size_of ctx _ = Some 0

-- ---- alignments

-- the product of a factor and the alignment of scalars, if they have one
abbrev pub scaled : (factor : ℕ) → Option ℕ → Result ℕ LayoutErrorInner
scaled factor (Some alignment) = Ok (factor + alignment)
scaled factor None = Err NonPowerOfTwoWidth

-- the alignment of the elements of an array, if their layout is known
abbrev pub alignment_of_base : (base : ℕ) → Option TypeLayout → Result ℕ LayoutErrorInner
alignment_of_base base (Some layout) = Ok layout.alignment
alignment_of_base base None = Err (InvalidArrayElementType base)

-- the greatest alignment of the members from this index on, and of those before; the types of all have to come before
abbrev pub alignment_of_members : List TypeLayout → (index before : ℕ) → List StructMember → Result ℕ LayoutErrorInner
alignment_of_members known index before [] = Ok before
alignment_of_members known index before (member ∷ rest) =
    elim (slice_get known member.ty) as (λ _. Result ℕ LayoutErrorInner) [
      | None ↦ Err (InvalidStructMemberType index member.ty)
      | Some layout ↦ alignment_of_members known (index + 1) (max before layout.alignment) rest
    ]

-- the alignment of a type, from the layouts of the types before it
abbrev pub alignment_of : List TypeLayout → TypeInner → Result ℕ LayoutErrorInner
alignment_of known (Scalar scalar) = scaled 0 (alignment_of_width scalar.width)
alignment_of known (Atomic scalar) = scaled 0 (alignment_of_width scalar.width)
alignment_of known (Vector size scalar) = scaled (alignment_of_size size) (alignment_of_width scalar.width)
alignment_of known (Matrix columns rows scalar) = scaled (alignment_of_size rows) (alignment_of_width scalar.width)
alignment_of known (CooperativeMatrix columns rows scalar role) = scaled (alignment_of_side rows) (alignment_of_width scalar.width)
alignment_of known (Array base size stride) = alignment_of_base base (slice_get known base)
alignment_of known (Struct members span) = alignment_of_members known 0 0 members.items
alignment_of known _ = Ok 0

-- ---- layouts

-- a size with an alignment, or the error
abbrev pub with_alignment : (size : ℕ) → Result ℕ LayoutErrorInner → Result TypeLayout LayoutErrorInner
with_alignment size (Ok alignment) = Ok (record { size = size; alignment = alignment })
with_alignment size (Err error) = Err error

-- the layout of a type of this size, if it has one
abbrev pub sized : List TypeLayout → TypeInner → Option ℕ → Result TypeLayout LayoutErrorInner
sized known inner (Some size) = with_alignment size (alignment_of known inner)
sized known inner None = Err TooLarge

-- the layout of a type, from the layouts of the types before it
abbrev pub layout_of : GlobalCtx → List TypeLayout → TypeInner → Result TypeLayout LayoutErrorInner
layout_of ctx known inner = sized known inner (size_of ctx inner)

-- the known layouts and then those of these types, up to the first that has none, with the error of that one
abbrev pub laying : GlobalCtx → List TypeLayout → List NamedType → List TypeLayout × Option LayoutErrorInner
laying ctx known [] = (known, None)
laying ctx known (type ∷ rest) =
    elim (layout_of ctx known type.inner) as (λ _. List TypeLayout × Option LayoutErrorInner) [
      | Err error ↦ (known, Some error)
      | Ok layout ↦ laying ctx (known ++ layout ∷ []) rest
    ]

-- The error is that of the first of these types that has no layout, and the layouts before it are known. If an
-- allocation failed, the layouts are the old ones, and the type is the first whose layout is not known.
abbrev pub IsStoppedBy : GlobalCtx → (old : List TypeLayout) → List NamedType → LayoutErrorInner → (new : List TypeLayout) → Type 0
IsStoppedBy ctx old types Memory new = new ≡ old
IsStoppedBy ctx old types error new = laying ctx old types ≡ (new, Some error)

-- the same of an error, which names the type after the last whose layout is known
abbrev pub IsStopped : GlobalCtx → (old : List TypeLayout) → List NamedType → LayoutError → (new : List TypeLayout) → Type 0
IsStopped ctx old types error new = (error.ty ≡ length new) × IsStoppedBy ctx old types error.inner new
