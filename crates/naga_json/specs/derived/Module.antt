-- Made by tests/derive from the declarations of naga_kinds and naga_ir.
-- How values are written and read whose types are declared in the module `module`.
use Rattle.std.specs.Prelude.{codes, List, Option, ℕ, ⊤}
use Rattle.naga_kinds.specs.declared.flags.MemoryDecorations.{MemoryDecorations}
use Rattle.naga_json.specs.Codec.{Codec, handle_codec, short_codec, text_codec, word_codec}
use Rattle.naga_json.specs.Fields.{field, Fields, no_fields, optional_field, struct_codec}
use Rattle.naga_json.specs.FlagSets.{memory_decorations_codec}
use Rattle.naga_kinds.specs.declared.entry_point.MeshOutputTopology.{MeshOutputTopology}
use Rattle.naga_kinds.specs.declared.address_space.AddressSpace.{AddressSpace}
use Rattle.naga_kinds.specs.declared.binding.Binding.{Binding}
use Rattle.naga_kinds.specs.declared.binding.ResourceBinding.{ResourceBinding}
use Rattle.naga_json.specs.Declarations.{ConstantValue, FunctionArgumentValue, GlobalVariableValue, LocalVariableValue, OverrideValue}
use Rattle.naga_ir.specs.declared.module.FunctionResult.{FunctionResult}
use Rattle.naga_ir.specs.declared.module.MeshStageInfo.{MeshStageInfo}
use Rattle.naga_json.specs.derived.AddressSpace.{address_space_codec}
use Rattle.naga_json.specs.derived.Binding.{binding_codec, resource_binding_codec}
use Rattle.naga_json.specs.derived.Kinds.{mesh_output_topology_codec}

-- the fields of an `Override`
abbrev pub override_fields : Fields (Option (List ℕ) × (Option ℕ × (ℕ × (Option ℕ × ⊤))))
override_fields =
    optional_field (codes "name") text_codec (
    optional_field (codes "id") short_codec (
    field (codes "ty") handle_codec (
    optional_field (codes "init") handle_codec no_fields)))

-- an `Override`
abbrev pub override_codec : Codec OverrideValue
override_codec =
    struct_codec override_fields
    (λ parts. record { name = parts.0; id = parts.1.0; ty = parts.1.1.0; init = parts.1.1.1.0 })
    (λ value. (value.name, (value.id, (value.ty, (value.init, tt)))))

-- the fields of a `Constant`
abbrev pub constant_fields : Fields (Option (List ℕ) × (ℕ × (ℕ × ⊤)))
constant_fields =
    optional_field (codes "name") text_codec (
    field (codes "ty") handle_codec (
    field (codes "init") handle_codec no_fields))

-- a `Constant`
abbrev pub constant_codec : Codec ConstantValue
constant_codec =
    struct_codec constant_fields
    (λ parts. record { name = parts.0; ty = parts.1.0; init = parts.1.1.0 })
    (λ value. (value.name, (value.ty, (value.init, tt))))

-- the fields of a `GlobalVariable`
abbrev pub global_variable_fields : Fields (Option (List ℕ) × (AddressSpace × (Option ResourceBinding × (ℕ × (Option ℕ × (MemoryDecorations × ⊤))))))
global_variable_fields =
    optional_field (codes "name") text_codec (
    field (codes "space") address_space_codec (
    optional_field (codes "binding") resource_binding_codec (
    field (codes "ty") handle_codec (
    optional_field (codes "init") handle_codec (
    field (codes "memory_decorations") memory_decorations_codec no_fields)))))

-- a `GlobalVariable`
abbrev pub global_variable_codec : Codec GlobalVariableValue
global_variable_codec =
    struct_codec global_variable_fields
    (λ parts. record { name = parts.0; space = parts.1.0; binding = parts.1.1.0; ty = parts.1.1.1.0; init = parts.1.1.1.1.0; memory_decorations = parts.1.1.1.1.1.0 })
    (λ value. (value.name, (value.space, (value.binding, (value.ty, (value.init, (value.memory_decorations, tt)))))))

-- the fields of a `LocalVariable`
abbrev pub local_variable_fields : Fields (Option (List ℕ) × (ℕ × (Option ℕ × ⊤)))
local_variable_fields =
    optional_field (codes "name") text_codec (
    field (codes "ty") handle_codec (
    optional_field (codes "init") handle_codec no_fields))

-- a `LocalVariable`
abbrev pub local_variable_codec : Codec LocalVariableValue
local_variable_codec =
    struct_codec local_variable_fields
    (λ parts. record { name = parts.0; ty = parts.1.0; init = parts.1.1.0 })
    (λ value. (value.name, (value.ty, (value.init, tt))))

-- the fields of a `FunctionArgument`
abbrev pub function_argument_fields : Fields (Option (List ℕ) × (ℕ × (Option Binding × ⊤)))
function_argument_fields =
    optional_field (codes "name") text_codec (
    field (codes "ty") handle_codec (
    optional_field (codes "binding") binding_codec no_fields))

-- a `FunctionArgument`
abbrev pub function_argument_codec : Codec FunctionArgumentValue
function_argument_codec =
    struct_codec function_argument_fields
    (λ parts. record { name = parts.0; ty = parts.1.0; binding = parts.1.1.0 })
    (λ value. (value.name, (value.ty, (value.binding, tt))))

-- the fields of a `FunctionResult`
abbrev pub function_result_fields : Fields (ℕ × (Option Binding × ⊤))
function_result_fields = field (codes "ty") handle_codec (optional_field (codes "binding") binding_codec no_fields)

-- a `FunctionResult`
abbrev pub function_result_codec : Codec FunctionResult
function_result_codec =
    struct_codec function_result_fields
    (λ parts. record { ty = parts.0; binding = parts.1.0 })
    (λ value. (value.ty, (value.binding, tt)))

-- the fields of a `MeshStageInfo`
abbrev pub mesh_stage_info_fields : Fields (MeshOutputTopology × (ℕ × (Option ℕ × (ℕ × (Option ℕ × (ℕ × (ℕ × (ℕ × ⊤))))))))
mesh_stage_info_fields =
    field (codes "topology") mesh_output_topology_codec (
    field (codes "max_vertices") word_codec (
    optional_field (codes "max_vertices_override") handle_codec (
    field (codes "max_primitives") word_codec (
    optional_field (codes "max_primitives_override") handle_codec (
    field (codes "vertex_output_type") handle_codec (
    field (codes "primitive_output_type") handle_codec (
    field (codes "output_variable") handle_codec no_fields)))))))

-- a `MeshStageInfo`
abbrev pub mesh_stage_info_codec : Codec MeshStageInfo
mesh_stage_info_codec =
    struct_codec mesh_stage_info_fields
    (λ parts. record { topology = parts.0; max_vertices = parts.1.0; max_vertices_override = parts.1.1.0; max_primitives = parts.1.1.1.0; max_primitives_override = parts.1.1.1.1.0; vertex_output_type = parts.1.1.1.1.1.0; primitive_output_type = parts.1.1.1.1.1.1.0; output_variable = parts.1.1.1.1.1.1.1.0 })
    (λ value. (value.topology, (value.max_vertices, (value.max_vertices_override, (value.max_primitives, (value.max_primitives_override, (value.vertex_output_type, (value.primitive_output_type, (value.output_variable, tt)))))))))
