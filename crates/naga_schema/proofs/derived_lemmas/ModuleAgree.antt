-- Made by tests/derive from the declarations of naga_kinds and naga_ir.
use Rattle.std.proofs.Common.{refl, ℕ}
use Rattle.naga_json.specs.Codec.{handle_codec, short_codec, text_codec, word_codec}
use Rattle.naga_json.specs.FlagSets.{memory_decorations_codec}
use Rattle.naga_schema.specs.derived.Types.{shape_of}
use Rattle.naga_schema.specs.declared.derived.type_name.TypeName.TheVariants as type
use Rattle.naga_schema.proofs.AgreesLemmas.{Agrees, agrees-field, agrees-none, agrees-optional_field, agrees-struct}
use Rattle.naga_json.specs.derived.AddressSpace.{address_space_codec}
use Rattle.naga_json.specs.derived.Binding.{binding_codec, resource_binding_codec}
use Rattle.naga_json.specs.derived.Module.{constant_codec, constant_fields, function_argument_codec, function_argument_fields, function_result_codec, function_result_fields, global_variable_codec, global_variable_fields, local_variable_codec, local_variable_fields, mesh_stage_info_codec, mesh_stage_info_fields, override_codec, override_fields}
use Rattle.naga_json.specs.derived.Kinds.{mesh_output_topology_codec}
use Rattle.naga_schema.proofs.LeavesAgree.{agrees-handle, agrees-memory_decorations, agrees-short, agrees-text, agrees-word}
use Rattle.naga_schema.proofs.derived_lemmas.KindLeavesAgree.{agrees-mesh_output_topology}
use Rattle.naga_schema.proofs.derived_lemmas.KindsAgree.{agrees-AddressSpace, agrees-Binding, agrees-ResourceBinding}

pub agrees-Override : (depth : ℕ) → Agrees depth type.Override override_codec.decode
unfolding shape_of
agrees-Override depth =
    agrees-struct depth type.Override _ override_fields _ refl refl
    (agrees-optional_field depth _ _ text_codec _ _ (agrees-text depth)
    (agrees-optional_field depth _ _ short_codec _ _ (agrees-short depth)
    (agrees-field depth _ _ handle_codec _ _ (agrees-handle depth)
    (agrees-optional_field depth _ _ handle_codec _ _ (agrees-handle depth)
    (agrees-none depth)))))

pub agrees-Constant : (depth : ℕ) → Agrees depth type.Constant constant_codec.decode
unfolding shape_of
agrees-Constant depth =
    agrees-struct depth type.Constant _ constant_fields _ refl refl
    (agrees-optional_field depth _ _ text_codec _ _ (agrees-text depth)
    (agrees-field depth _ _ handle_codec _ _ (agrees-handle depth)
    (agrees-field depth _ _ handle_codec _ _ (agrees-handle depth)
    (agrees-none depth))))

pub agrees-GlobalVariable : (depth : ℕ) → Agrees depth type.GlobalVariable global_variable_codec.decode
unfolding shape_of
agrees-GlobalVariable depth =
    agrees-struct depth type.GlobalVariable _ global_variable_fields _ refl refl
    (agrees-optional_field depth _ _ text_codec _ _ (agrees-text depth)
    (agrees-field depth _ _ address_space_codec _ _ (agrees-AddressSpace depth)
    (agrees-optional_field depth _ _ resource_binding_codec _ _ (agrees-ResourceBinding depth)
    (agrees-field depth _ _ handle_codec _ _ (agrees-handle depth)
    (agrees-optional_field depth _ _ handle_codec _ _ (agrees-handle depth)
    (agrees-field depth _ _ memory_decorations_codec _ _ (agrees-memory_decorations depth)
    (agrees-none depth)))))))

pub agrees-LocalVariable : (depth : ℕ) → Agrees depth type.LocalVariable local_variable_codec.decode
unfolding shape_of
agrees-LocalVariable depth =
    agrees-struct depth type.LocalVariable _ local_variable_fields _ refl refl
    (agrees-optional_field depth _ _ text_codec _ _ (agrees-text depth)
    (agrees-field depth _ _ handle_codec _ _ (agrees-handle depth)
    (agrees-optional_field depth _ _ handle_codec _ _ (agrees-handle depth)
    (agrees-none depth))))

pub agrees-FunctionArgument : (depth : ℕ) → Agrees depth type.FunctionArgument function_argument_codec.decode
unfolding shape_of
agrees-FunctionArgument depth =
    agrees-struct depth type.FunctionArgument _ function_argument_fields _ refl refl
    (agrees-optional_field depth _ _ text_codec _ _ (agrees-text depth)
    (agrees-field depth _ _ handle_codec _ _ (agrees-handle depth)
    (agrees-optional_field depth _ _ binding_codec _ _ (agrees-Binding depth)
    (agrees-none depth))))

pub agrees-FunctionResult : (depth : ℕ) → Agrees depth type.FunctionResult function_result_codec.decode
unfolding shape_of
agrees-FunctionResult depth =
    agrees-struct depth type.FunctionResult _ function_result_fields _ refl refl
    (agrees-field depth _ _ handle_codec _ _ (agrees-handle depth)
    (agrees-optional_field depth _ _ binding_codec _ _ (agrees-Binding depth)
    (agrees-none depth)))

pub agrees-MeshStageInfo : (depth : ℕ) → Agrees depth type.MeshStageInfo mesh_stage_info_codec.decode
unfolding shape_of
agrees-MeshStageInfo depth =
    agrees-struct depth type.MeshStageInfo _ mesh_stage_info_fields _ refl refl
    (agrees-field depth _ _ mesh_output_topology_codec _ _ (agrees-mesh_output_topology depth)
    (agrees-field depth _ _ word_codec _ _ (agrees-word depth)
    (agrees-optional_field depth _ _ handle_codec _ _ (agrees-handle depth)
    (agrees-field depth _ _ word_codec _ _ (agrees-word depth)
    (agrees-optional_field depth _ _ handle_codec _ _ (agrees-handle depth)
    (agrees-field depth _ _ handle_codec _ _ (agrees-handle depth)
    (agrees-field depth _ _ handle_codec _ _ (agrees-handle depth)
    (agrees-field depth _ _ handle_codec _ _ (agrees-handle depth)
    (agrees-none depth)))))))))
