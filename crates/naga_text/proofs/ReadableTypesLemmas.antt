-- Types are readable: only the members of structures are on lines of their own.
use Rattle.std.proofs.Common.{[], refl, ℕ}
use Rattle.std.specs.Prelude.{Option, Some, None, codes}
use Rattle.naga_kinds.specs.declared.binding.Binding.{Binding}
use Rattle.naga_kinds.specs.declared.binding.Binding.TheVariants as binding
use Rattle.naga_kinds.specs.declared.binding.Interpolation.{Interpolation}
use Rattle.naga_kinds.specs.declared.binding.Sampling.{Sampling}
use Rattle.naga_kinds.specs.declared.scalar.Scalar.{Scalar}
use Rattle.naga_kinds.specs.declared.scalar.VectorSize.{VectorSize}
use Rattle.naga_ir.specs.declared.types.ArraySize.{ArraySize}
use Rattle.naga_ir.specs.declared.types.ArraySize.TheVariants as size
use Rattle.naga_ir.specs.declared.types.StructMember.{StructMember}
use Rattle.naga_ir.specs.declared.types.«Type».{«Type» as NamedType}
use Rattle.naga_ir.specs.declared.types.TypeInner.{TypeInner}
use Rattle.naga_ir.specs.declared.types.TypeInner.TheVariants as type
use Rattle.naga_text.specs.Readable.{IsPlain, IsReadable}
use Rattle.naga_text.specs.Types.{array_size_text, binding_text, inner_text, member_text, optional_binding, optional_blend, optional_interpolation, optional_sampling, optional_size_text, scalar_text, type_line, type_text}
use Rattle.naga_valid.specs.ElementNames.{text_of}
use Rattle.naga_text.proofs.derived_lemmas.ReadableNamesLemmas.{cooperative_role_name-plain, cooperative_size_name-plain, image_dimension_name-plain, interpolation_name-plain, sampling_name-plain, scalar_kind_name-plain, vector_size_name-plain}
use Rattle.naga_text.proofs.derived_lemmas.ReadableTextsLemmas.{address_space_text-plain, built_in_text-plain, image_class_text-plain}
use Rattle.naga_text.proofs.ReadableOperandsLemmas.{between-plain}
use Rattle.naga_text.proofs.ReadableWordsLemmas.{flag-plain, name_text-plain, number-plain, word-plain}
use Rattle.naga_text.proofs.SpellsLemmas.{IsReadable-plain, Spells-after, Spells-append, Spells-ascii, Spells-flat_map, Spells-nil}

pub type_text-plain : (index : ℕ) → IsPlain (type_text index)
type_text-plain index = between-plain (codes " type ") refl index [] refl

scalar_text-plain : (scalar : Scalar) → IsPlain (scalar_text scalar)
scalar_text-plain scalar = Spells-append (word-plain (scalar_kind_name-plain scalar.kind)) (number-plain scalar.width)

optional_size_text-plain : (size : Option VectorSize) → IsPlain (optional_size_text size)
optional_size_text-plain (Some size) = word-plain (vector_size_name-plain size)
optional_size_text-plain None = Spells-nil

array_size_text-plain : (size : ArraySize) → IsPlain (array_size_text size)
array_size_text-plain (size.Constant count) = number-plain count.value
array_size_text-plain (size.Pending handle) = between-plain (codes " override ") refl handle [] refl
array_size_text-plain size.Dynamic = Spells-ascii (codes " dynamic") refl

optional_interpolation-plain : (kind : Option Interpolation) → IsPlain (optional_interpolation kind)
optional_interpolation-plain (Some kind) = word-plain (interpolation_name-plain kind)
optional_interpolation-plain None = Spells-nil

optional_sampling-plain : (kind : Option Sampling) → IsPlain (optional_sampling kind)
optional_sampling-plain (Some kind) = word-plain (sampling_name-plain kind)
optional_sampling-plain None = Spells-nil

optional_blend-plain : (index : Option ℕ) → IsPlain (optional_blend index)
optional_blend-plain (Some index) = Spells-after (codes " blend_src") refl (number-plain index)
optional_blend-plain None = Spells-nil

binding_text-plain : (binding : Binding) → IsPlain (binding_text binding)
binding_text-plain (binding.BuiltIn value) = Spells-after (codes " builtin") refl (built_in_text-plain value)
binding_text-plain (binding.Location location interpolation sampling blend_src per_primitive) =
    Spells-append
    (Spells-after (codes " location") refl (Spells-append (number-plain location) (optional_interpolation-plain interpolation)))
    (Spells-append (optional_sampling-plain sampling) (Spells-append (optional_blend-plain blend_src) (flag-plain per_primitive (Spells-ascii (codes "per_primitive") refl))))

pub optional_binding-plain : (binding : Option Binding) → IsPlain (optional_binding binding)
optional_binding-plain (Some binding) = binding_text-plain binding
optional_binding-plain None = Spells-nil

member_text-readable : (member : StructMember) → IsReadable (member_text member)
member_text-readable member =
    Spells-append
    (Spells-after (codes "\n    offset") refl (IsReadable-plain (Spells-append (number-plain member.offset) (name_text-plain (text_of member.name)))))
    (IsReadable-plain (Spells-append (type_text-plain member.ty) (optional_binding-plain member.binding)))

inner_text-readable : (inner : TypeInner) → IsReadable (inner_text inner)
inner_text-readable (type.Scalar scalar) = IsReadable-plain (Spells-after (codes "Scalar") refl (scalar_text-plain scalar))
inner_text-readable (type.Vector size scalar) =
    IsReadable-plain (Spells-after (codes "Vector") refl (Spells-append (word-plain (vector_size_name-plain size)) (scalar_text-plain scalar)))
inner_text-readable (type.Matrix columns rows scalar) =
    IsReadable-plain (Spells-after (codes "Matrix") refl
    (Spells-append (word-plain (vector_size_name-plain columns)) (Spells-append (word-plain (vector_size_name-plain rows)) (scalar_text-plain scalar))))
inner_text-readable (type.CooperativeMatrix columns rows scalar role) =
    IsReadable-plain (Spells-append
    (Spells-after (codes "CooperativeMatrix") refl (Spells-append (word-plain (cooperative_size_name-plain columns)) (word-plain (cooperative_size_name-plain rows))))
    (Spells-append (scalar_text-plain scalar) (word-plain (cooperative_role_name-plain role))))
inner_text-readable (type.Atomic scalar) = IsReadable-plain (Spells-after (codes "Atomic") refl (scalar_text-plain scalar))
inner_text-readable (type.Pointer base space) =
    IsReadable-plain (Spells-after (codes "Pointer") refl (Spells-append (address_space_text-plain space) (type_text-plain base)))
inner_text-readable (type.ValuePointer size scalar space) =
    IsReadable-plain (Spells-after (codes "ValuePointer") refl
    (Spells-append (address_space_text-plain space) (Spells-append (optional_size_text-plain size) (scalar_text-plain scalar))))
inner_text-readable (type.Array base size stride) =
    IsReadable-plain (Spells-append
    (Spells-after (codes "Array") refl (Spells-append (array_size_text-plain size) (type_text-plain base)))
    (Spells-after (codes " stride") refl (number-plain stride)))
inner_text-readable (type.Struct members span) =
    Spells-after (codes "Struct") refl (Spells-append (IsReadable-plain (number-plain span)) (Spells-flat_map member_text members.items member_text-readable))
inner_text-readable (type.Image dim arrayed class) =
    IsReadable-plain (Spells-after (codes "Image") refl
    (Spells-append (word-plain (image_dimension_name-plain dim)) (Spells-append (flag-plain arrayed (Spells-ascii (codes "arrayed") refl)) (image_class_text-plain class))))
inner_text-readable (type.Sampler comparison) =
    IsReadable-plain (Spells-after (codes "Sampler") refl (flag-plain comparison (Spells-ascii (codes "comparison") refl)))
inner_text-readable (type.AccelerationStructure vertex_return) =
    IsReadable-plain (Spells-after (codes "AccelerationStructure") refl (flag-plain vertex_return (Spells-ascii (codes "vertex_return") refl)))
inner_text-readable (type.RayQuery vertex_return) =
    IsReadable-plain (Spells-after (codes "RayQuery") refl (flag-plain vertex_return (Spells-ascii (codes "vertex_return") refl)))
inner_text-readable (type.BindingArray base size) =
    IsReadable-plain (Spells-after (codes "BindingArray") refl (Spells-append (array_size_text-plain size) (type_text-plain base)))

pub type_line-readable : (entry : ℕ × NamedType) → IsReadable (type_line entry)
type_line-readable entry =
    Spells-append
    (IsReadable-plain (Spells-after (codes "type") refl (Spells-append (number-plain entry.0) (name_text-plain (text_of (entry.1).name)))))
    (Spells-after (codes " = ") refl (Spells-append (inner_text-readable (entry.1).inner) (Spells-ascii (codes "\n") refl)))
