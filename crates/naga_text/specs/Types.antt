-- The texts of types: one line for each variant.
use Rattle.std.specs.Prelude.{ℕ, List, [], ◌++◌, Option, Some, None, codes, flat_map}
use Rattle.naga_kinds.specs.derived.Names.{cooperative_role_name, cooperative_size_name, image_dimension_name, interpolation_name, sampling_name, scalar_kind_name, vector_size_name}
use Rattle.naga_kinds.specs.declared.binding.Binding.{Binding}
use Rattle.naga_kinds.specs.declared.binding.Binding.TheVariants as binding
use Rattle.naga_kinds.specs.declared.binding.Interpolation.{Interpolation}
use Rattle.naga_kinds.specs.declared.binding.Sampling.{Sampling}
use Rattle.naga_kinds.specs.declared.scalar.Scalar.{Scalar}
use Rattle.naga_kinds.specs.declared.scalar.VectorSize.{VectorSize}
use Rattle.naga_ir.specs.declared.types.ArraySize.{ArraySize}
use Rattle.naga_ir.specs.declared.types.ArraySize.TheVariants as size
use Rattle.naga_ir.specs.declared.types.StructMember.{StructMember}
use Rattle.naga_ir.specs.declared.types.«Type».{«Type» as NamedType}
use Rattle.naga_ir.specs.declared.types.TypeInner.{TypeInner}
use Rattle.naga_ir.specs.declared.types.TypeInner.TheVariants as type
use Rattle.naga_text.specs.Operands.{between}
use Rattle.naga_text.specs.derived.AddressSpace.{address_space_text}
use Rattle.naga_text.specs.derived.Builtin.{built_in_text}
use Rattle.naga_text.specs.derived.Image.{image_class_text}
use Rattle.naga_text.specs.Words.{flag, name_text, number, word}
use Rattle.naga_valid.specs.ElementNames.{text_of}

-- the handle of a type
abbrev pub type_text : ℕ → List ℕ
type_text index = between (codes " type ") index []

-- the kind of a scalar, and its width in bytes
abbrev pub scalar_text : Scalar → List ℕ
scalar_text scalar = word (scalar_kind_name scalar.kind) ++ number scalar.width

-- the size of a vector, if it is one
abbrev pub optional_size_text : Option VectorSize → List ℕ
optional_size_text (Some size) = word (vector_size_name size)
optional_size_text None = []

-- the number of elements of an array
abbrev pub array_size_text : ArraySize → List ℕ
array_size_text (size.Constant count) = number count.value
array_size_text (size.Pending handle) = between (codes " override ") handle []
array_size_text size.Dynamic = codes " dynamic"

abbrev pub optional_interpolation : Option Interpolation → List ℕ
optional_interpolation (Some kind) = word (interpolation_name kind)
optional_interpolation None = []

abbrev pub optional_sampling : Option Sampling → List ℕ
optional_sampling (Some kind) = word (sampling_name kind)
optional_sampling None = []

-- the index from which a colour is blended, if there is one
abbrev pub optional_blend : Option ℕ → List ℕ
optional_blend (Some index) = codes " blend_src" ++ number index
optional_blend None = []

-- the binding of an argument, a result or a member
abbrev pub binding_text : Binding → List ℕ
binding_text (binding.BuiltIn value) = codes " builtin" ++ built_in_text value
binding_text (binding.Location location interpolation sampling blend_src per_primitive) =
    (codes " location" ++ (number location ++ optional_interpolation interpolation))
    ++ (optional_sampling sampling ++ (optional_blend blend_src ++ flag per_primitive (codes "per_primitive")))

abbrev pub optional_binding : Option Binding → List ℕ
optional_binding (Some binding) = binding_text binding
optional_binding None = []

-- a member of a structure: a line with its offset, its name, its type and its binding
abbrev pub member_text : StructMember → List ℕ
member_text member =
    (codes "\n    offset" ++ (number member.offset ++ name_text (text_of member.name)))
    ++ (type_text member.ty ++ optional_binding member.binding)

-- the contents of a type
abbrev pub inner_text : TypeInner → List ℕ
inner_text (type.Scalar scalar) = codes "Scalar" ++ scalar_text scalar
inner_text (type.Vector size scalar) = codes "Vector" ++ (word (vector_size_name size) ++ scalar_text scalar)
inner_text (type.Matrix columns rows scalar) = codes "Matrix" ++ (word (vector_size_name columns) ++ (word (vector_size_name rows) ++ scalar_text scalar))
inner_text (type.CooperativeMatrix columns rows scalar role) =
    (codes "CooperativeMatrix" ++ (word (cooperative_size_name columns) ++ word (cooperative_size_name rows)))
    ++ (scalar_text scalar ++ word (cooperative_role_name role))
inner_text (type.Atomic scalar) = codes "Atomic" ++ scalar_text scalar
inner_text (type.Pointer base space) = codes "Pointer" ++ (address_space_text space ++ type_text base)
inner_text (type.ValuePointer size scalar space) = codes "ValuePointer" ++ (address_space_text space ++ (optional_size_text size ++ scalar_text scalar))
inner_text (type.Array base size stride) = (codes "Array" ++ (array_size_text size ++ type_text base)) ++ (codes " stride" ++ number stride)
inner_text (type.Struct members span) = codes "Struct" ++ (number span ++ flat_map member_text members.items)
inner_text (type.Image dim arrayed class) = codes "Image" ++ (word (image_dimension_name dim) ++ (flag arrayed (codes "arrayed") ++ image_class_text class))
inner_text (type.Sampler comparison) = codes "Sampler" ++ flag comparison (codes "comparison")
inner_text (type.AccelerationStructure vertex_return) = codes "AccelerationStructure" ++ flag vertex_return (codes "vertex_return")
inner_text (type.RayQuery vertex_return) = codes "RayQuery" ++ flag vertex_return (codes "vertex_return")
inner_text (type.BindingArray base size) = codes "BindingArray" ++ (array_size_text size ++ type_text base)

-- a type with its handle and its name
abbrev pub type_line : ℕ × NamedType → List ℕ
type_line entry =
    (codes "type" ++ (number entry.0 ++ name_text (text_of (entry.1).name))) ++ (codes " = " ++ (inner_text (entry.1).inner ++ codes "\n"))
