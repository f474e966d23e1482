-- Made by tests/derive from the declarations of naga_kinds and naga_ir.
use Rattle.std.proofs.Common.{refl, ℕ}
use Rattle.naga_json.specs.Codec.{boolean_codec, byte_codec, word_codec}
use Rattle.naga_json.specs.FlagSets.{storage_access_codec}
use Rattle.naga_json.specs.Variants.{held_in}
use Rattle.naga_schema.specs.derived.Types.{shape_of}
use Rattle.naga_schema.specs.declared.derived.type_name.TypeName.TheVariants as type
use Rattle.naga_schema.proofs.AgreesLemmas.{Agrees, agrees-as, agrees-data_enum, agrees-enum, agrees-field, agrees-no_rows, agrees-none, agrees-optional_field, agrees-row, agrees-struct}
use Rattle.naga_json.specs.derived.AddressSpace.{address_space_codec, address_space_names, address_space_rows, address_space_storage}
use Rattle.naga_json.specs.derived.Binding.{binding_built_in, binding_codec, binding_location, binding_rows, resource_binding_codec, resource_binding_fields}
use Rattle.naga_json.specs.derived.Builtin.{built_in_barycentric, built_in_codec, built_in_names, built_in_position, built_in_rows}
use Rattle.naga_json.specs.derived.EntryPoint.{early_depth_test_allow, early_depth_test_codec, early_depth_test_names, early_depth_test_rows}
use Rattle.naga_json.specs.derived.Image.{image_class_codec, image_class_depth, image_class_names, image_class_rows, image_class_sampled, image_class_storage}
use Rattle.naga_json.specs.derived.Scalar.{scalar_codec, scalar_fields}
use Rattle.naga_json.specs.derived.Switch.{switch_value_codec, switch_value_i32, switch_value_names, switch_value_rows, switch_value_u32}
use Rattle.naga_json.specs.derived.Kinds.{conservative_depth_codec, interpolation_codec, sampling_codec, scalar_kind_codec, storage_format_codec}
use Rattle.naga_schema.proofs.LeavesAgree.{agrees-boolean, agrees-byte, agrees-integer_32, agrees-storage_access, agrees-word}
use Rattle.naga_schema.proofs.derived_lemmas.KindLeavesAgree.{agrees-conservative_depth, agrees-interpolation, agrees-sampling, agrees-scalar_kind, agrees-storage_format}

pub agrees-AddressSpaceStorage : (depth : ℕ) → Agrees depth type.AddressSpaceStorage (held_in address_space_storage)
unfolding shape_of
agrees-AddressSpaceStorage depth =
    agrees-struct depth type.AddressSpaceStorage _ _ _ refl refl
    (agrees-field depth _ _ storage_access_codec _ _ (agrees-storage_access depth)
    (agrees-none depth))

pub agrees-AddressSpace : (depth : ℕ) → Agrees depth type.AddressSpace address_space_codec.decode
unfolding shape_of
agrees-AddressSpace depth =
    agrees-enum depth type.AddressSpace _ _ address_space_names address_space_rows refl refl
    (agrees-row depth _ _ (held_in address_space_storage) _ _ (agrees-AddressSpaceStorage depth)
    (agrees-no_rows depth))

pub agrees-BuiltInPosition : (depth : ℕ) → Agrees depth type.BuiltInPosition (held_in built_in_position)
unfolding shape_of
agrees-BuiltInPosition depth =
    agrees-struct depth type.BuiltInPosition _ _ _ refl refl
    (agrees-field depth _ _ boolean_codec _ _ (agrees-boolean depth)
    (agrees-none depth))

pub agrees-BuiltInBarycentric : (depth : ℕ) → Agrees depth type.BuiltInBarycentric (held_in built_in_barycentric)
unfolding shape_of
agrees-BuiltInBarycentric depth =
    agrees-struct depth type.BuiltInBarycentric _ _ _ refl refl
    (agrees-field depth _ _ boolean_codec _ _ (agrees-boolean depth)
    (agrees-none depth))

pub agrees-BuiltIn : (depth : ℕ) → Agrees depth type.BuiltIn built_in_codec.decode
unfolding shape_of
agrees-BuiltIn depth =
    agrees-enum depth type.BuiltIn _ _ built_in_names built_in_rows refl refl
    (agrees-row depth _ _ (held_in built_in_position) _ _ (agrees-BuiltInPosition depth)
    (agrees-row depth _ _ (held_in built_in_barycentric) _ _ (agrees-BuiltInBarycentric depth)
    (agrees-no_rows depth)))

pub agrees-BindingLocation : (depth : ℕ) → Agrees depth type.BindingLocation (held_in binding_location)
unfolding shape_of
agrees-BindingLocation depth =
    agrees-struct depth type.BindingLocation _ _ _ refl refl
    (agrees-field depth _ _ word_codec _ _ (agrees-word depth)
    (agrees-optional_field depth _ _ interpolation_codec _ _ (agrees-interpolation depth)
    (agrees-optional_field depth _ _ sampling_codec _ _ (agrees-sampling depth)
    (agrees-optional_field depth _ _ word_codec _ _ (agrees-word depth)
    (agrees-field depth _ _ boolean_codec _ _ (agrees-boolean depth)
    (agrees-none depth))))))

pub agrees-Binding : (depth : ℕ) → Agrees depth type.Binding binding_codec.decode
unfolding shape_of
agrees-Binding depth =
    agrees-data_enum depth type.Binding _ binding_rows refl
    (agrees-row depth _ _ (held_in binding_built_in) _ _ (agrees-as depth _ _ _ (agrees-BuiltIn depth))
    (agrees-row depth _ _ (held_in binding_location) _ _ (agrees-BindingLocation depth)
    (agrees-no_rows depth)))

pub agrees-ResourceBinding : (depth : ℕ) → Agrees depth type.ResourceBinding resource_binding_codec.decode
unfolding shape_of
agrees-ResourceBinding depth =
    agrees-struct depth type.ResourceBinding _ resource_binding_fields _ refl refl
    (agrees-field depth _ _ word_codec _ _ (agrees-word depth)
    (agrees-field depth _ _ word_codec _ _ (agrees-word depth)
    (agrees-none depth)))

pub agrees-EarlyDepthTestAllow : (depth : ℕ) → Agrees depth type.EarlyDepthTestAllow (held_in early_depth_test_allow)
unfolding shape_of
agrees-EarlyDepthTestAllow depth =
    agrees-struct depth type.EarlyDepthTestAllow _ _ _ refl refl
    (agrees-field depth _ _ conservative_depth_codec _ _ (agrees-conservative_depth depth)
    (agrees-none depth))

pub agrees-EarlyDepthTest : (depth : ℕ) → Agrees depth type.EarlyDepthTest early_depth_test_codec.decode
unfolding shape_of
agrees-EarlyDepthTest depth =
    agrees-enum depth type.EarlyDepthTest _ _ early_depth_test_names early_depth_test_rows refl refl
    (agrees-row depth _ _ (held_in early_depth_test_allow) _ _ (agrees-EarlyDepthTestAllow depth)
    (agrees-no_rows depth))

pub agrees-ImageClassSampled : (depth : ℕ) → Agrees depth type.ImageClassSampled (held_in image_class_sampled)
unfolding shape_of
agrees-ImageClassSampled depth =
    agrees-struct depth type.ImageClassSampled _ _ _ refl refl
    (agrees-field depth _ _ scalar_kind_codec _ _ (agrees-scalar_kind depth)
    (agrees-field depth _ _ boolean_codec _ _ (agrees-boolean depth)
    (agrees-none depth)))

pub agrees-ImageClassDepth : (depth : ℕ) → Agrees depth type.ImageClassDepth (held_in image_class_depth)
unfolding shape_of
agrees-ImageClassDepth depth =
    agrees-struct depth type.ImageClassDepth _ _ _ refl refl
    (agrees-field depth _ _ boolean_codec _ _ (agrees-boolean depth)
    (agrees-none depth))

pub agrees-ImageClassStorage : (depth : ℕ) → Agrees depth type.ImageClassStorage (held_in image_class_storage)
unfolding shape_of
agrees-ImageClassStorage depth =
    agrees-struct depth type.ImageClassStorage _ _ _ refl refl
    (agrees-field depth _ _ storage_format_codec _ _ (agrees-storage_format depth)
    (agrees-field depth _ _ storage_access_codec _ _ (agrees-storage_access depth)
    (agrees-none depth)))

pub agrees-ImageClass : (depth : ℕ) → Agrees depth type.ImageClass image_class_codec.decode
unfolding shape_of
agrees-ImageClass depth =
    agrees-enum depth type.ImageClass _ _ image_class_names image_class_rows refl refl
    (agrees-row depth _ _ (held_in image_class_sampled) _ _ (agrees-ImageClassSampled depth)
    (agrees-row depth _ _ (held_in image_class_depth) _ _ (agrees-ImageClassDepth depth)
    (agrees-row depth _ _ (held_in image_class_storage) _ _ (agrees-ImageClassStorage depth)
    (agrees-no_rows depth))))

pub agrees-Scalar : (depth : ℕ) → Agrees depth type.Scalar scalar_codec.decode
unfolding shape_of
agrees-Scalar depth =
    agrees-struct depth type.Scalar _ scalar_fields _ refl refl
    (agrees-field depth _ _ scalar_kind_codec _ _ (agrees-scalar_kind depth)
    (agrees-field depth _ _ byte_codec _ _ (agrees-byte depth)
    (agrees-none depth)))

pub agrees-SwitchValue : (depth : ℕ) → Agrees depth type.SwitchValue switch_value_codec.decode
unfolding shape_of
agrees-SwitchValue depth =
    agrees-enum depth type.SwitchValue _ _ switch_value_names switch_value_rows refl refl
    (agrees-row depth _ _ (held_in switch_value_i32) _ _ (agrees-as depth _ _ _ (agrees-integer_32 depth))
    (agrees-row depth _ _ (held_in switch_value_u32) _ _ (agrees-as depth _ _ _ (agrees-word depth))
    (agrees-no_rows depth)))
