-- Made by tests/derive from the declarations of naga_kinds and naga_ir.
-- Values whose types are declared in the module `module` are read as they are written.
use Rattle.std.proofs.Common.{refl}
use Rattle.naga_json.specs.Lawful.{Lawful}
use Rattle.naga_json.proofs.CodecLemmas.{lawful-handle, lawful-short, lawful-text, lawful-word}
use Rattle.naga_json.proofs.FieldsLemmas.{contains, distinct, lawful-field, lawful-no_fields, lawful-optional_field, lawful-struct, LawfulFields}
use Rattle.naga_json.proofs.FlagSetsLemmas.{lawful-memory_decorations}
use Rattle.naga_json.specs.derived.Module.{constant_codec, constant_fields, function_argument_codec, function_argument_fields, function_result_codec, function_result_fields, global_variable_codec, global_variable_fields, local_variable_codec, local_variable_fields, mesh_stage_info_codec, mesh_stage_info_fields, override_codec, override_fields}
use Rattle.naga_json.proofs.derived.AddressSpaceLemmas.{lawful-address_space}
use Rattle.naga_json.proofs.derived.BindingLemmas.{lawful-binding, lawful-resource_binding}
use Rattle.naga_json.proofs.derived.KindsLemmas.{lawful-mesh_output_topology}

lawful-override_fields : LawfulFields override_fields
lawful-override_fields = lawful-optional_field _ _ _ lawful-text (lawful-optional_field _ _ _ lawful-short (lawful-field _ _ _ lawful-handle (lawful-optional_field _ _ _ lawful-handle lawful-no_fields)))

pub lawful-override : Lawful override_codec
unfolding distinct contains
lawful-override = lawful-struct override_fields lawful-override_fields _ _ (λ value. refl) (λ parts. refl) refl

lawful-constant_fields : LawfulFields constant_fields
lawful-constant_fields = lawful-optional_field _ _ _ lawful-text (lawful-field _ _ _ lawful-handle (lawful-field _ _ _ lawful-handle lawful-no_fields))

pub lawful-constant : Lawful constant_codec
unfolding distinct contains
lawful-constant = lawful-struct constant_fields lawful-constant_fields _ _ (λ value. refl) (λ parts. refl) refl

lawful-global_variable_fields : LawfulFields global_variable_fields
lawful-global_variable_fields = lawful-optional_field _ _ _ lawful-text (lawful-field _ _ _ lawful-address_space (lawful-optional_field _ _ _ lawful-resource_binding (lawful-field _ _ _ lawful-handle (lawful-optional_field _ _ _ lawful-handle (lawful-field _ _ _ lawful-memory_decorations lawful-no_fields)))))

pub lawful-global_variable : Lawful global_variable_codec
unfolding distinct contains
lawful-global_variable = lawful-struct global_variable_fields lawful-global_variable_fields _ _ (λ value. refl) (λ parts. refl) refl

lawful-local_variable_fields : LawfulFields local_variable_fields
lawful-local_variable_fields = lawful-optional_field _ _ _ lawful-text (lawful-field _ _ _ lawful-handle (lawful-optional_field _ _ _ lawful-handle lawful-no_fields))

pub lawful-local_variable : Lawful local_variable_codec
unfolding distinct contains
lawful-local_variable = lawful-struct local_variable_fields lawful-local_variable_fields _ _ (λ value. refl) (λ parts. refl) refl

lawful-function_argument_fields : LawfulFields function_argument_fields
lawful-function_argument_fields = lawful-optional_field _ _ _ lawful-text (lawful-field _ _ _ lawful-handle (lawful-optional_field _ _ _ lawful-binding lawful-no_fields))

pub lawful-function_argument : Lawful function_argument_codec
unfolding distinct contains
lawful-function_argument = lawful-struct function_argument_fields lawful-function_argument_fields _ _ (λ value. refl) (λ parts. refl) refl

lawful-function_result_fields : LawfulFields function_result_fields
lawful-function_result_fields = lawful-field _ _ _ lawful-handle (lawful-optional_field _ _ _ lawful-binding lawful-no_fields)

pub lawful-function_result : Lawful function_result_codec
unfolding distinct contains
lawful-function_result = lawful-struct function_result_fields lawful-function_result_fields _ _ (λ value. refl) (λ parts. refl) refl

lawful-mesh_stage_info_fields : LawfulFields mesh_stage_info_fields
lawful-mesh_stage_info_fields = lawful-field _ _ _ lawful-mesh_output_topology (lawful-field _ _ _ lawful-word (lawful-optional_field _ _ _ lawful-handle (lawful-field _ _ _ lawful-word (lawful-optional_field _ _ _ lawful-handle (lawful-field _ _ _ lawful-handle (lawful-field _ _ _ lawful-handle (lawful-field _ _ _ lawful-handle lawful-no_fields)))))))

pub lawful-mesh_stage_info : Lawful mesh_stage_info_codec
unfolding distinct contains
lawful-mesh_stage_info = lawful-struct mesh_stage_info_fields lawful-mesh_stage_info_fields _ _ (λ value. refl) (λ parts. refl) refl
