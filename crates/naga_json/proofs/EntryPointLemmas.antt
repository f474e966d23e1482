-- Entry points are read as they are written.
use Rattle.std.proofs.Common.{refl}
use Rattle.naga_json.specs.Form.{LawfulForm}
use Rattle.naga_json.specs.EntryPoint.{entry_point_fields, entry_point_form}
use Rattle.naga_json.proofs.CodecLemmas.{lawful-handle, lawful-text, lawful-word}
use Rattle.naga_json.proofs.derived.EntryPointLemmas.{lawful-early_depth_test}
use Rattle.naga_json.proofs.FieldsLemmas.{contains, distinct, lawful-no_fields, lawful-optional_field}
use Rattle.naga_json.proofs.FormFieldsLemmas.{LawfulFormFields, lawful-form_field, lawful-plain_field, lawful-plain_fields, lawful-plain_optional_field, lawful-struct_form}
use Rattle.naga_json.proofs.FunctionLemmas.{lawful-function}
use Rattle.naga_json.proofs.derived.KindsLemmas.{lawful-shader_stage}
use Rattle.naga_json.proofs.ListsLemmas.{lawful-array, lawful-array_of_options}
use Rattle.naga_json.proofs.derived.ModuleLemmas.{lawful-mesh_stage_info}

lawful-entry_point_fields : LawfulFormFields entry_point_fields
lawful-entry_point_fields = search (lawful-form_field, lawful-plain_field, lawful-plain_fields, lawful-plain_optional_field, lawful-no_fields, lawful-optional_field, lawful-handle, lawful-text, lawful-word, lawful-shader_stage, lawful-early_depth_test, lawful-array, lawful-array_of_options, lawful-mesh_stage_info, lawful-function) depth 26

pub lawful-entry_point : LawfulForm entry_point_form
unfolding distinct contains
lawful-entry_point = lawful-struct_form entry_point_fields lawful-entry_point_fields _ _ (λ value. refl) (λ parts. refl) refl
