-- The texts of the types of a module, by handle.
use Rattle.std.specs.Prelude.{ℕ, ◌-◌, ◌%◌, ◌^◌, ◌==◌, ◌&&◌, nat_le, nat_lt, List, [], ◌∷◌, ◌++◌, Bool, Option, Some, None, Result, Ok, Err, String, string_bytes, if◌then◌else◌, length, option_map, slice_get, unwrap_or}
use Rattle.std.specs.declared.alloc.Global.{Global}
use Rattle.naga_ir.specs.declared.types.ArraySize.{ArraySize}
use Rattle.naga_ir.specs.declared.types.«Type».{«Type» as NamedType}
use Rattle.naga_ir.specs.declared.types.TypeInner.{TypeInner}
use Rattle.naga_ir.specs.declared.types.TypeInner.TheVariants as type
use Rattle.naga_kinds.specs.declared.address_space.AddressSpace.{AddressSpace}
use Rattle.naga_kinds.specs.declared.scalar.Scalar.{Scalar}
use Rattle.naga_kinds.specs.declared.scalar.VectorSize.{VectorSize}
use Rattle.naga_layouter.specs.declared.layouter.TypeLayout.{TypeLayout}
use Rattle.naga_wgsl.specs.declared.write_error.Cause.{Cause}
use Rattle.naga_wgsl.specs.declared.write_error.Cause.TheVariants as cause
use Rattle.naga_wgsl.specs.Arrays.{pointer_text, sized_text}
use Rattle.naga_wgsl.specs.Images.{image_text, sampler_text}
use Rattle.naga_wgsl.specs.Types.{atomic_text, matrix_text, name_or, scalar_text, vector_text}

-- the name with this index, if there is one
abbrev pub name_at : List (String Global) → (index : ℕ) → Result (List ℕ) Cause
name_at names index = name_or cause.Name (option_map string_bytes (slice_get names index))

-- the text with this handle, or why there is none, where `known` has those of all types, or expressions, before another one
abbrev pub text_at : (known : List (Result (List ℕ) Cause)) → (handle : ℕ) → Result (List ℕ) Cause
text_at known handle = unwrap_or (slice_get known handle) (Err cause.Order)

-- the stride is the least multiple of the alignment that is not below the size
abbrev pub is_natural : TypeLayout → (stride : ℕ) → Bool
is_natural layout stride =
    (stride % 2 ^ layout.alignment == 0) && (nat_le layout.size stride && nat_lt (stride - layout.size) (2 ^ layout.alignment))

-- an array whose elements have this text and this layout, if they have one: only one with the natural stride is there
abbrev pub laid_text : (base : List ℕ) → Option TypeLayout → ArraySize → (stride : ℕ) → Result (List ℕ) Cause
laid_text base None size stride = Err cause.Layout
laid_text base (Some layout) size stride = if is_natural layout stride then sized_text base size else Err cause.Stride

-- an array whose elements have this text, if they have one
abbrev pub array_of : Result (List ℕ) Cause → Option TypeLayout → ArraySize → (stride : ℕ) → Result (List ℕ) Cause
array_of (Ok base) layout size stride = laid_text base layout size stride
array_of (Err cause) layout size stride = Err cause

-- a pointer to what has this type, if it has a text
abbrev pub pointer_to : Result (List ℕ) Cause → AddressSpace → Result (List ℕ) Cause
pointer_to (Ok base) space = pointer_text base space
pointer_to (Err cause) space = Err cause

-- a vector, or a scalar if there is no size
abbrev pub value_text : Option VectorSize → Scalar → Result (List ℕ) Cause
value_text (Some size) scalar = vector_text size scalar
value_text None scalar = scalar_text scalar

module _ (known : List (Result (List ℕ) Cause)) (layouts : List TypeLayout) (name : Result (List ℕ) Cause) where
  -- a type with these contents, or why WGSL has none; a structure has a name, and the types before it have these texts
  abbrev pub contents_text : TypeInner → Result (List ℕ) Cause
  contents_text (type.Scalar scalar) = scalar_text scalar
  contents_text (type.Vector size scalar) = vector_text size scalar
  contents_text (type.Matrix columns rows scalar) = matrix_text columns rows scalar
  contents_text (type.CooperativeMatrix columns rows scalar role) = Err cause.CooperativeMatrix
  contents_text (type.Atomic scalar) = atomic_text scalar
  contents_text (type.Pointer base space) = pointer_to (text_at known base) space
  contents_text (type.ValuePointer size scalar space) = pointer_to (value_text size scalar) space
  contents_text (type.Array base size stride) = array_of (text_at known base) (slice_get layouts base) size stride
  contents_text (type.Struct members span) = name
  contents_text (type.Image dim arrayed class) = image_text dim arrayed class
  contents_text (type.Sampler comparison) = Ok (sampler_text comparison)
  contents_text (type.AccelerationStructure vertex_return) = Err cause.RayTracing
  contents_text (type.RayQuery vertex_return) = Err cause.RayTracing
  contents_text (type.BindingArray base size) = Err cause.BindingArray

module _ {X : Type 0} (text_of : (known : List (Result (List ℕ) Cause)) → (index : ℕ) → X → Result (List ℕ) Cause) where
  -- the texts of items, each made from those before it, behind some that are known
  abbrev pub texts_after : (known : List (Result (List ℕ) Cause)) → List X → List (Result (List ℕ) Cause)
  texts_after known [] = known
  texts_after known (item ∷ rest) = texts_after (known ++ text_of known (length known) item ∷ []) rest

module _ (layouts : List TypeLayout) (names : List (String Global)) where
  -- the text of a type with an index, given those of the types before it
  abbrev pub type_text : (known : List (Result (List ℕ) Cause)) → (index : ℕ) → NamedType → Result (List ℕ) Cause
  type_text known index type = contents_text known layouts (name_at names index) type.inner

  -- the texts of all types
  abbrev pub texts_of : List NamedType → List (Result (List ℕ) Cause)
  texts_of types = texts_after type_text [] types
