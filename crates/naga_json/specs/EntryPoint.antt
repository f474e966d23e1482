-- Entry points and their parts.
use Rattle.std.specs.Prelude.{⊤, ℕ, List, codes, string_bytes, Option}
use Rattle.naga_kinds.specs.declared.entry_point.ShaderStage.{ShaderStage}
use Rattle.naga_kinds.specs.declared.entry_point.EarlyDepthTest.{EarlyDepthTest}
use Rattle.naga_ir.specs.declared.module.MeshStageInfo.{MeshStageInfo}
use Rattle.naga_ir.specs.declared.module.EntryPoint.{EntryPoint}
use Rattle.naga_json.specs.Function.{FunctionValue, function_value, function_form}
use Rattle.naga_json.specs.Codec.{handle_codec, option_codec, text_codec, word_codec}
use Rattle.naga_json.specs.derived.EntryPoint.{early_depth_test_codec}
use Rattle.naga_json.specs.Fields.{no_fields, optional_field}
use Rattle.naga_json.specs.Form.{Form}
use Rattle.naga_json.specs.FormFields.{FormFields, form_field, plain_field, plain_fields, plain_optional_field, struct_form}
use Rattle.naga_json.specs.derived.Kinds.{shader_stage_codec}
use Rattle.naga_json.specs.Lists.{array_codec}
use Rattle.naga_json.specs.derived.Module.{mesh_stage_info_codec}

-- an entry point without the spare capacities of its lists and names
pub record EntryPointValue : Type 0 where
  pub name : List ℕ
  pub stage : ShaderStage
  pub early_depth_test : Option EarlyDepthTest
  pub workgroup_size : List ℕ
  pub workgroup_size_overrides : Option (List (Option ℕ))
  pub function : FunctionValue
  pub mesh_info : Option MeshStageInfo
  pub task_payload : Option ℕ
  pub incoming_ray_payload : Option ℕ

-- the value of an entry point
abbrev pub entry_point_value : EntryPoint → EntryPointValue
entry_point_value entry = record {
  name = string_bytes entry.name;
  stage = entry.stage;
  early_depth_test = entry.early_depth_test;
  workgroup_size = entry.workgroup_size;
  workgroup_size_overrides = entry.workgroup_size_overrides;
  function = function_value entry.function;
  mesh_info = entry.mesh_info;
  task_payload = entry.task_payload;
  incoming_ray_payload = entry.incoming_ray_payload;
}

-- the fields of an entry point
abbrev pub entry_point_fields : FormFields (List ℕ × (ShaderStage × (Option EarlyDepthTest × (List ℕ × (Option (List (Option ℕ)) × (FunctionValue × (Option MeshStageInfo × (Option ℕ × (Option ℕ × ⊤)))))))))
entry_point_fields =
    plain_field (codes "name") text_codec (
    plain_field (codes "stage") shader_stage_codec (
    plain_optional_field (codes "early_depth_test") early_depth_test_codec (
    plain_field (codes "workgroup_size") (array_codec 3 word_codec) (
    plain_optional_field (codes "workgroup_size_overrides") (array_codec 3 (option_codec handle_codec)) (
    form_field (codes "function") function_form (
    plain_fields (
    optional_field (codes "mesh_info") mesh_stage_info_codec (
    optional_field (codes "task_payload") handle_codec (
    optional_field (codes "incoming_ray_payload") handle_codec no_fields)))))))))

-- an entry point
abbrev pub entry_point_form : Form EntryPointValue
entry_point_form =
    struct_form entry_point_fields
    (λ parts. record {
      name = parts.0;
      stage = parts.1.0;
      early_depth_test = parts.1.1.0;
      workgroup_size = parts.1.1.1.0;
      workgroup_size_overrides = parts.1.1.1.1.0;
      function = parts.1.1.1.1.1.0;
      mesh_info = parts.1.1.1.1.1.1.0;
      task_payload = parts.1.1.1.1.1.1.1.0;
      incoming_ray_payload = parts.1.1.1.1.1.1.1.1.0;
    })
    (λ value. (value.name, (value.stage, (value.early_depth_test, (value.workgroup_size, (value.workgroup_size_overrides, (value.function, (value.mesh_info, (value.task_payload, (value.incoming_ray_payload, tt))))))))))
