-- Made by tests/derive from the declarations of naga_kinds and naga_ir.
-- How values are written and read whose types are declared in the module `types`.
use Rattle.std.specs.Prelude.{[], codes, List, Option, ℕ, ⊤, ◌∷◌}
use Rattle.json.specs.Json.{Json}
use Rattle.naga_json.specs.Codec.{boolean_codec, Codec, handle_codec, nonzero_codec, text_codec, word_codec}
use Rattle.naga_json.specs.Fields.{field, Fields, no_fields, optional_field, struct_codec}
use Rattle.naga_json.specs.Lists.{list_codec}
use Rattle.naga_json.specs.Variants.{data_enum_codec, enum_codec, holding, holds, holds_fields, Payload, row, unwritten, Variant, word}
use Rattle.naga_kinds.specs.declared.binding.Binding.{Binding}
use Rattle.naga_ir.specs.declared.types.ArraySize.{ArraySize}
use Rattle.naga_ir.specs.declared.types.ArraySize.TheVariants as array_size
use Rattle.naga_ir.specs.Types.{Inner, Member, plain, structure}
use Rattle.naga_ir.specs.declared.types.TypeInner.TheVariants as type_inner
use Rattle.naga_json.specs.derived.AddressSpace.{address_space_codec}
use Rattle.naga_json.specs.derived.Binding.{binding_codec}
use Rattle.naga_json.specs.derived.Image.{image_class_codec}
use Rattle.naga_json.specs.derived.Scalar.{scalar_codec}
use Rattle.naga_json.specs.derived.Kinds.{cooperative_role_codec, cooperative_size_codec, image_dimension_codec, vector_size_codec}

-- a `Constant`
abbrev pub array_size_constant : Variant ArraySize
array_size_constant = holds (codes "Constant") nonzero_codec array_size.Constant

-- a `Pending`
abbrev pub array_size_pending : Variant ArraySize
array_size_pending = holds (codes "Pending") handle_codec array_size.Pending

-- the variants of `ArraySize` that are names alone
abbrev pub array_size_names : List (List ℕ × ArraySize)
array_size_names =
    (codes "Dynamic", array_size.Dynamic) ∷
    []

-- the variants of `ArraySize` that contain data
abbrev pub array_size_rows : Json → List (List ℕ × Option ArraySize)
array_size_rows held =
    row array_size_constant held ∷
    row array_size_pending held ∷
    []

-- how an `ArraySize` is written
abbrev pub array_size_payload : ArraySize → Payload
array_size_payload (array_size.Constant value) = holding array_size_constant value
array_size_payload (array_size.Pending value) = holding array_size_pending value
array_size_payload array_size.Dynamic = word (codes "Dynamic")

-- an `ArraySize`
abbrev pub array_size_codec : Codec ArraySize
array_size_codec = enum_codec array_size_names array_size_rows array_size_payload

-- the fields of a `StructMember`
abbrev pub struct_member_fields : Fields (Option (List ℕ) × (ℕ × (Option Binding × (ℕ × ⊤))))
struct_member_fields =
    optional_field (codes "name") text_codec (
    field (codes "ty") handle_codec (
    optional_field (codes "binding") binding_codec (
    field (codes "offset") word_codec no_fields)))

-- a `StructMember`
abbrev pub struct_member_codec : Codec Member
struct_member_codec =
    struct_codec struct_member_fields
    (λ parts. record { name = parts.0; ty = parts.1.0; binding = parts.1.1.0; offset = parts.1.1.1.0 })
    (λ value. (value.name, (value.ty, (value.binding, (value.offset, tt)))))

-- a `Scalar`
abbrev pub type_inner_scalar : Variant Inner
type_inner_scalar = holds (codes "Scalar") scalar_codec (λ value. plain (type_inner.Scalar value))

-- a `Vector`
abbrev pub type_inner_vector : Variant Inner
type_inner_vector =
    holds_fields (codes "Vector")
    (field (codes "size") vector_size_codec (field (codes "scalar") scalar_codec no_fields))
    (λ parts. plain (type_inner.Vector parts.0 parts.1.0))

-- a `Matrix`
abbrev pub type_inner_matrix : Variant Inner
type_inner_matrix =
    holds_fields (codes "Matrix")
    (field (codes "columns") vector_size_codec (
    field (codes "rows") vector_size_codec (
    field (codes "scalar") scalar_codec no_fields)))
    (λ parts. plain (type_inner.Matrix parts.0 parts.1.0 parts.1.1.0))

-- a `CooperativeMatrix`
abbrev pub type_inner_cooperative_matrix : Variant Inner
type_inner_cooperative_matrix =
    holds_fields (codes "CooperativeMatrix")
    (field (codes "columns") cooperative_size_codec (
    field (codes "rows") cooperative_size_codec (
    field (codes "scalar") scalar_codec (
    field (codes "role") cooperative_role_codec no_fields))))
    (λ parts. plain (type_inner.CooperativeMatrix parts.0 parts.1.0 parts.1.1.0 parts.1.1.1.0))

-- an `Atomic`
abbrev pub type_inner_atomic : Variant Inner
type_inner_atomic = holds (codes "Atomic") scalar_codec (λ value. plain (type_inner.Atomic value))

-- a `Pointer`
abbrev pub type_inner_pointer : Variant Inner
type_inner_pointer =
    holds_fields (codes "Pointer")
    (field (codes "base") handle_codec (field (codes "space") address_space_codec no_fields))
    (λ parts. plain (type_inner.Pointer parts.0 parts.1.0))

-- a `ValuePointer`
abbrev pub type_inner_value_pointer : Variant Inner
type_inner_value_pointer =
    holds_fields (codes "ValuePointer")
    (optional_field (codes "size") vector_size_codec (
    field (codes "scalar") scalar_codec (
    field (codes "space") address_space_codec no_fields)))
    (λ parts. plain (type_inner.ValuePointer parts.0 parts.1.0 parts.1.1.0))

-- an `Array`
abbrev pub type_inner_array : Variant Inner
type_inner_array =
    holds_fields (codes "Array")
    (field (codes "base") handle_codec (
    field (codes "size") array_size_codec (
    field (codes "stride") word_codec no_fields)))
    (λ parts. plain (type_inner.Array parts.0 parts.1.0 parts.1.1.0))

-- a `Struct`
abbrev pub type_inner_struct : Variant Inner
type_inner_struct =
    holds_fields (codes "Struct")
    (field (codes "members") (list_codec struct_member_codec) (field (codes "span") word_codec no_fields))
    (λ parts. structure parts.0 parts.1.0)

-- an `Image`
abbrev pub type_inner_image : Variant Inner
type_inner_image =
    holds_fields (codes "Image")
    (field (codes "dim") image_dimension_codec (
    field (codes "arrayed") boolean_codec (
    field (codes "class") image_class_codec no_fields)))
    (λ parts. plain (type_inner.Image parts.0 parts.1.0 parts.1.1.0))

-- a `Sampler`
abbrev pub type_inner_sampler : Variant Inner
type_inner_sampler =
    holds_fields (codes "Sampler")
    (field (codes "comparison") boolean_codec no_fields)
    (λ parts. plain (type_inner.Sampler parts.0))

-- an `AccelerationStructure`
abbrev pub type_inner_acceleration_structure : Variant Inner
type_inner_acceleration_structure =
    holds_fields (codes "AccelerationStructure")
    (field (codes "vertex_return") boolean_codec no_fields)
    (λ parts. plain (type_inner.AccelerationStructure parts.0))

-- a `RayQuery`
abbrev pub type_inner_ray_query : Variant Inner
type_inner_ray_query =
    holds_fields (codes "RayQuery")
    (field (codes "vertex_return") boolean_codec no_fields)
    (λ parts. plain (type_inner.RayQuery parts.0))

-- a `BindingArray`
abbrev pub type_inner_binding_array : Variant Inner
type_inner_binding_array =
    holds_fields (codes "BindingArray")
    (field (codes "base") handle_codec (field (codes "size") array_size_codec no_fields))
    (λ parts. plain (type_inner.BindingArray parts.0 parts.1.0))

-- the variants of `TypeInner` that contain data
abbrev pub type_inner_rows : Json → List (List ℕ × Option Inner)
type_inner_rows held =
    row type_inner_scalar held ∷
    row type_inner_vector held ∷
    row type_inner_matrix held ∷
    row type_inner_cooperative_matrix held ∷
    row type_inner_atomic held ∷
    row type_inner_pointer held ∷
    row type_inner_value_pointer held ∷
    row type_inner_array held ∷
    row type_inner_struct held ∷
    row type_inner_image held ∷
    row type_inner_sampler held ∷
    row type_inner_acceleration_structure held ∷
    row type_inner_ray_query held ∷
    row type_inner_binding_array held ∷
    []

-- how a `TypeInner` is written
abbrev pub type_inner_payload : Inner → Payload
type_inner_payload (plain (type_inner.Scalar value)) = holding type_inner_scalar value
type_inner_payload (plain (type_inner.Vector size scalar)) = holding type_inner_vector (size, (scalar, tt))
type_inner_payload (plain (type_inner.Matrix columns rows scalar)) =
    holding type_inner_matrix (columns, (rows, (scalar, tt)))
type_inner_payload (plain (type_inner.CooperativeMatrix columns rows scalar role)) =
    holding type_inner_cooperative_matrix (columns, (rows, (scalar, (role, tt))))
type_inner_payload (plain (type_inner.Atomic value)) = holding type_inner_atomic value
type_inner_payload (plain (type_inner.Pointer base space)) = holding type_inner_pointer (base, (space, tt))
type_inner_payload (plain (type_inner.ValuePointer size scalar space)) =
    holding type_inner_value_pointer (size, (scalar, (space, tt)))
type_inner_payload (plain (type_inner.Array base size stride)) = holding type_inner_array (base, (size, (stride, tt)))
type_inner_payload (structure members span) = holding type_inner_struct (members, (span, tt))
type_inner_payload (plain (type_inner.Image dim arrayed class)) = holding type_inner_image (dim, (arrayed, (class, tt)))
type_inner_payload (plain (type_inner.Sampler comparison)) = holding type_inner_sampler (comparison, tt)
type_inner_payload (plain (type_inner.AccelerationStructure vertex_return)) =
    holding type_inner_acceleration_structure (vertex_return, tt)
type_inner_payload (plain (type_inner.RayQuery vertex_return)) = holding type_inner_ray_query (vertex_return, tt)
type_inner_payload (plain (type_inner.BindingArray base size)) = holding type_inner_binding_array (base, (size, tt))
type_inner_payload other = unwritten

-- a `TypeInner`
abbrev pub type_inner_codec : Codec Inner
type_inner_codec = data_enum_codec type_inner_rows type_inner_payload
