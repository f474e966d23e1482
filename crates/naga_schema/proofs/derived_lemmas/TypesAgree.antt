-- Made by tests/derive from the declarations of naga_kinds and naga_ir.
use Rattle.std.proofs.Common.{refl, ℕ}
use Rattle.naga_json.specs.Codec.{boolean_codec, handle_codec, text_codec, word_codec}
use Rattle.naga_json.specs.Lists.{list_codec}
use Rattle.naga_json.specs.Variants.{held_in}
use Rattle.naga_schema.specs.derived.Types.{shape_of}
use Rattle.naga_schema.specs.declared.derived.type_name.TypeName.TheVariants as type
use Rattle.naga_schema.proofs.AgreesLemmas.{Agrees, agrees-as, agrees-data_enum, agrees-enum, agrees-field, agrees-list, agrees-no_rows, agrees-none, agrees-optional_field, agrees-row, agrees-struct}
use Rattle.naga_json.specs.derived.AddressSpace.{address_space_codec}
use Rattle.naga_json.specs.derived.Binding.{binding_codec}
use Rattle.naga_json.specs.derived.Image.{image_class_codec}
use Rattle.naga_json.specs.derived.Scalar.{scalar_codec}
use Rattle.naga_json.specs.derived.Types.{array_size_codec, array_size_constant, array_size_names, array_size_pending, array_size_rows, struct_member_codec, struct_member_fields, type_inner_acceleration_structure, type_inner_array, type_inner_atomic, type_inner_binding_array, type_inner_codec, type_inner_cooperative_matrix, type_inner_image, type_inner_matrix, type_inner_pointer, type_inner_ray_query, type_inner_rows, type_inner_sampler, type_inner_scalar, type_inner_struct, type_inner_value_pointer, type_inner_vector}
use Rattle.naga_json.specs.derived.Kinds.{cooperative_role_codec, cooperative_size_codec, image_dimension_codec, vector_size_codec}
use Rattle.naga_schema.proofs.LeavesAgree.{agrees-boolean, agrees-handle, agrees-non_zero, agrees-text, agrees-word}
use Rattle.naga_schema.proofs.derived_lemmas.KindLeavesAgree.{agrees-cooperative_role, agrees-cooperative_size, agrees-image_dimension, agrees-vector_size}
use Rattle.naga_schema.proofs.derived_lemmas.KindsAgree.{agrees-AddressSpace, agrees-Binding, agrees-ImageClass, agrees-Scalar}

pub agrees-ArraySize : (depth : ℕ) → Agrees depth type.ArraySize array_size_codec.decode
unfolding shape_of
agrees-ArraySize depth =
    agrees-enum depth type.ArraySize _ _ array_size_names array_size_rows refl refl
    (agrees-row depth _ _ (held_in array_size_constant) _ _ (agrees-as depth _ _ _ (agrees-non_zero depth))
    (agrees-row depth _ _ (held_in array_size_pending) _ _ (agrees-as depth _ _ _ (agrees-handle depth))
    (agrees-no_rows depth)))

pub agrees-StructMember : (depth : ℕ) → Agrees depth type.StructMember struct_member_codec.decode
unfolding shape_of
agrees-StructMember depth =
    agrees-struct depth type.StructMember _ struct_member_fields _ refl refl
    (agrees-optional_field depth _ _ text_codec _ _ (agrees-text depth)
    (agrees-field depth _ _ handle_codec _ _ (agrees-handle depth)
    (agrees-optional_field depth _ _ binding_codec _ _ (agrees-Binding depth)
    (agrees-field depth _ _ word_codec _ _ (agrees-word depth)
    (agrees-none depth)))))

pub agrees-StructMembers : (depth : ℕ) → Agrees depth type.StructMembers (list_codec struct_member_codec).decode
unfolding shape_of
agrees-StructMembers depth = agrees-list depth type.StructMembers _ struct_member_codec.decode refl (agrees-StructMember depth)

pub agrees-TypeInnerVector : (depth : ℕ) → Agrees depth type.TypeInnerVector (held_in type_inner_vector)
unfolding shape_of
agrees-TypeInnerVector depth =
    agrees-struct depth type.TypeInnerVector _ _ _ refl refl
    (agrees-field depth _ _ vector_size_codec _ _ (agrees-vector_size depth)
    (agrees-field depth _ _ scalar_codec _ _ (agrees-Scalar depth)
    (agrees-none depth)))

pub agrees-TypeInnerMatrix : (depth : ℕ) → Agrees depth type.TypeInnerMatrix (held_in type_inner_matrix)
unfolding shape_of
agrees-TypeInnerMatrix depth =
    agrees-struct depth type.TypeInnerMatrix _ _ _ refl refl
    (agrees-field depth _ _ vector_size_codec _ _ (agrees-vector_size depth)
    (agrees-field depth _ _ vector_size_codec _ _ (agrees-vector_size depth)
    (agrees-field depth _ _ scalar_codec _ _ (agrees-Scalar depth)
    (agrees-none depth))))

pub agrees-TypeInnerCooperativeMatrix : (depth : ℕ) → Agrees depth type.TypeInnerCooperativeMatrix (held_in type_inner_cooperative_matrix)
unfolding shape_of
agrees-TypeInnerCooperativeMatrix depth =
    agrees-struct depth type.TypeInnerCooperativeMatrix _ _ _ refl refl
    (agrees-field depth _ _ cooperative_size_codec _ _ (agrees-cooperative_size depth)
    (agrees-field depth _ _ cooperative_size_codec _ _ (agrees-cooperative_size depth)
    (agrees-field depth _ _ scalar_codec _ _ (agrees-Scalar depth)
    (agrees-field depth _ _ cooperative_role_codec _ _ (agrees-cooperative_role depth)
    (agrees-none depth)))))

pub agrees-TypeInnerPointer : (depth : ℕ) → Agrees depth type.TypeInnerPointer (held_in type_inner_pointer)
unfolding shape_of
agrees-TypeInnerPointer depth =
    agrees-struct depth type.TypeInnerPointer _ _ _ refl refl
    (agrees-field depth _ _ handle_codec _ _ (agrees-handle depth)
    (agrees-field depth _ _ address_space_codec _ _ (agrees-AddressSpace depth)
    (agrees-none depth)))

pub agrees-TypeInnerValuePointer : (depth : ℕ) → Agrees depth type.TypeInnerValuePointer (held_in type_inner_value_pointer)
unfolding shape_of
agrees-TypeInnerValuePointer depth =
    agrees-struct depth type.TypeInnerValuePointer _ _ _ refl refl
    (agrees-optional_field depth _ _ vector_size_codec _ _ (agrees-vector_size depth)
    (agrees-field depth _ _ scalar_codec _ _ (agrees-Scalar depth)
    (agrees-field depth _ _ address_space_codec _ _ (agrees-AddressSpace depth)
    (agrees-none depth))))

pub agrees-TypeInnerArray : (depth : ℕ) → Agrees depth type.TypeInnerArray (held_in type_inner_array)
unfolding shape_of
agrees-TypeInnerArray depth =
    agrees-struct depth type.TypeInnerArray _ _ _ refl refl
    (agrees-field depth _ _ handle_codec _ _ (agrees-handle depth)
    (agrees-field depth _ _ array_size_codec _ _ (agrees-ArraySize depth)
    (agrees-field depth _ _ word_codec _ _ (agrees-word depth)
    (agrees-none depth))))

pub agrees-TypeInnerStruct : (depth : ℕ) → Agrees depth type.TypeInnerStruct (held_in type_inner_struct)
unfolding shape_of
agrees-TypeInnerStruct depth =
    agrees-struct depth type.TypeInnerStruct _ _ _ refl refl
    (agrees-field depth _ _ (list_codec struct_member_codec) _ _ (agrees-StructMembers depth)
    (agrees-field depth _ _ word_codec _ _ (agrees-word depth)
    (agrees-none depth)))

pub agrees-TypeInnerImage : (depth : ℕ) → Agrees depth type.TypeInnerImage (held_in type_inner_image)
unfolding shape_of
agrees-TypeInnerImage depth =
    agrees-struct depth type.TypeInnerImage _ _ _ refl refl
    (agrees-field depth _ _ image_dimension_codec _ _ (agrees-image_dimension depth)
    (agrees-field depth _ _ boolean_codec _ _ (agrees-boolean depth)
    (agrees-field depth _ _ image_class_codec _ _ (agrees-ImageClass depth)
    (agrees-none depth))))

pub agrees-TypeInnerSampler : (depth : ℕ) → Agrees depth type.TypeInnerSampler (held_in type_inner_sampler)
unfolding shape_of
agrees-TypeInnerSampler depth =
    agrees-struct depth type.TypeInnerSampler _ _ _ refl refl
    (agrees-field depth _ _ boolean_codec _ _ (agrees-boolean depth)
    (agrees-none depth))

pub agrees-TypeInnerAccelerationStructure : (depth : ℕ) → Agrees depth type.TypeInnerAccelerationStructure (held_in type_inner_acceleration_structure)
unfolding shape_of
agrees-TypeInnerAccelerationStructure depth =
    agrees-struct depth type.TypeInnerAccelerationStructure _ _ _ refl refl
    (agrees-field depth _ _ boolean_codec _ _ (agrees-boolean depth)
    (agrees-none depth))

pub agrees-TypeInnerRayQuery : (depth : ℕ) → Agrees depth type.TypeInnerRayQuery (held_in type_inner_ray_query)
unfolding shape_of
agrees-TypeInnerRayQuery depth =
    agrees-struct depth type.TypeInnerRayQuery _ _ _ refl refl
    (agrees-field depth _ _ boolean_codec _ _ (agrees-boolean depth)
    (agrees-none depth))

pub agrees-TypeInnerBindingArray : (depth : ℕ) → Agrees depth type.TypeInnerBindingArray (held_in type_inner_binding_array)
unfolding shape_of
agrees-TypeInnerBindingArray depth =
    agrees-struct depth type.TypeInnerBindingArray _ _ _ refl refl
    (agrees-field depth _ _ handle_codec _ _ (agrees-handle depth)
    (agrees-field depth _ _ array_size_codec _ _ (agrees-ArraySize depth)
    (agrees-none depth)))

pub agrees-TypeInner : (depth : ℕ) → Agrees depth type.TypeInner type_inner_codec.decode
unfolding shape_of
agrees-TypeInner depth =
    agrees-data_enum depth type.TypeInner _ type_inner_rows refl
    (agrees-row depth _ _ (held_in type_inner_scalar) _ _ (agrees-as depth _ _ _ (agrees-Scalar depth))
    (agrees-row depth _ _ (held_in type_inner_vector) _ _ (agrees-TypeInnerVector depth)
    (agrees-row depth _ _ (held_in type_inner_matrix) _ _ (agrees-TypeInnerMatrix depth)
    (agrees-row depth _ _ (held_in type_inner_cooperative_matrix) _ _ (agrees-TypeInnerCooperativeMatrix depth)
    (agrees-row depth _ _ (held_in type_inner_atomic) _ _ (agrees-as depth _ _ _ (agrees-Scalar depth))
    (agrees-row depth _ _ (held_in type_inner_pointer) _ _ (agrees-TypeInnerPointer depth)
    (agrees-row depth _ _ (held_in type_inner_value_pointer) _ _ (agrees-TypeInnerValuePointer depth)
    (agrees-row depth _ _ (held_in type_inner_array) _ _ (agrees-TypeInnerArray depth)
    (agrees-row depth _ _ (held_in type_inner_struct) _ _ (agrees-TypeInnerStruct depth)
    (agrees-row depth _ _ (held_in type_inner_image) _ _ (agrees-TypeInnerImage depth)
    (agrees-row depth _ _ (held_in type_inner_sampler) _ _ (agrees-TypeInnerSampler depth)
    (agrees-row depth _ _ (held_in type_inner_acceleration_structure) _ _ (agrees-TypeInnerAccelerationStructure depth)
    (agrees-row depth _ _ (held_in type_inner_ray_query) _ _ (agrees-TypeInnerRayQuery depth)
    (agrees-row depth _ _ (held_in type_inner_binding_array) _ _ (agrees-TypeInnerBindingArray depth)
    (agrees-no_rows depth)))))))))))))))
