-- The modules that use mesh shaders, and those that use ray tracing.
--
-- A module uses mesh shaders if a member of a structure, an argument or a result of an entry point has a mesh binding,
-- if an entry point is of the task or the mesh stage, or if a global variable is in the payload of a task. A mesh
-- binding is one of nine built-ins, or a location with a value for each primitive. Rays may be traced if the module has
-- the special type that describes rays, or a type that is an acceleration structure.
use Rattle.std.specs.Prelude.{ℕ, List, Bool, true, false, ◌||◌, ◌&&◌, not, Option, Some, None, is_some, option_and_then, slice_get}
use Rattle.std.specs.List.{list_any}
use Rattle.std.specs.Option.{option_to_list}
use Rattle.naga_arena.specs.Arena.{values}
use Rattle.naga_kinds.specs.declared.address_space.AddressSpace.{AddressSpace}
use Rattle.naga_kinds.specs.declared.address_space.AddressSpace.TheVariants.{TaskPayload}
use Rattle.naga_kinds.specs.declared.binding.Binding.{Binding}
use Rattle.naga_kinds.specs.declared.binding.Binding.TheVariants.{BuiltIn, Location}
use Rattle.naga_kinds.specs.declared.builtin.BuiltIn as built_in
use Rattle.naga_kinds.specs.declared.builtin.BuiltIn.TheVariants.{MeshTaskSize, CullPrimitive, PointIndex, LineIndices, TriangleIndices, VertexCount, Vertices, PrimitiveCount, Primitives}
use Rattle.naga_kinds.specs.declared.entry_point.ShaderStage.{ShaderStage}
use Rattle.naga_kinds.specs.declared.entry_point.ShaderStage.TheVariants.{Task, Mesh, RayGeneration, Miss, AnyHit, ClosestHit}
use Rattle.naga_ir.specs.declared.module.EntryPoint.{EntryPoint}
use Rattle.naga_ir.specs.declared.module.Module as the_module
use Rattle.naga_ir.specs.declared.types.TypeInner.{TypeInner}
use Rattle.naga_ir.specs.declared.types.TypeInner.TheVariants.{Struct, AccelerationStructure, RayQuery}

-- ---- mesh shaders

-- the built-in is written by mesh shaders or task shaders
abbrev pub is_mesh_built_in : built_in.BuiltIn → Bool
is_mesh_built_in MeshTaskSize = true
is_mesh_built_in CullPrimitive = true
is_mesh_built_in PointIndex = true
is_mesh_built_in LineIndices = true
is_mesh_built_in TriangleIndices = true
is_mesh_built_in VertexCount = true
is_mesh_built_in Vertices = true
is_mesh_built_in PrimitiveCount = true
is_mesh_built_in Primitives = true
is_mesh_built_in _ = false

-- there is a binding to such a built-in, or to a location with one value for each primitive
abbrev pub is_mesh_binding : Option Binding → Bool
is_mesh_binding (Some (BuiltIn value)) = is_mesh_built_in value
is_mesh_binding (Some (Location location interpolation sampling blend_src per_primitive)) = per_primitive
is_mesh_binding None = false

-- the type is a structure with a member that has such a binding
abbrev pub has_mesh_member : TypeInner → Bool
has_mesh_member (Struct members span) = list_any (λ member. is_mesh_binding member.binding) members.items
has_mesh_member _ = false

abbrev pub is_mesh_stage : ShaderStage → Bool
is_mesh_stage Mesh = true
is_mesh_stage Task = true
is_mesh_stage _ = false

-- the stage of the entry point is a mesh or task stage, or an argument or the result has such a binding
abbrev pub is_mesh_entry_point : EntryPoint → Bool
is_mesh_entry_point entry =
    is_mesh_stage entry.stage
    || list_any (λ argument. is_mesh_binding argument.binding) entry.function.arguments.items
    || is_mesh_binding (option_and_then (λ result. result.binding) entry.function.result)

abbrev pub is_task_payload : AddressSpace → Bool
is_task_payload TaskPayload = true
is_task_payload _ = false

-- some type, entry point or global variable is specific to mesh shaders
abbrev pub uses_mesh_shaders : the_module.Module → Bool
uses_mesh_shaders whole =
    list_any (λ type. has_mesh_member type.inner) (values whole.types)
    || list_any is_mesh_entry_point whole.entry_points.items
    || list_any (λ variable. is_task_payload variable.space) (values whole.global_variables)

-- ---- ray tracing

-- rays run the stage
abbrev pub is_ray_stage : ShaderStage → Bool
is_ray_stage RayGeneration = true
is_ray_stage Miss = true
is_ray_stage AnyHit = true
is_ray_stage ClosestHit = true
is_ray_stage _ = false

abbrev pub is_ray_query : TypeInner → Bool
is_ray_query (RayQuery vertex_return) = true
is_ray_query _ = false

abbrev pub is_acceleration_structure : TypeInner → Bool
is_acceleration_structure (AccelerationStructure vertex_return) = true
is_acceleration_structure _ = false

-- all entry points, or the one at this position, if there is one
abbrev pub visited : Option ℕ → List EntryPoint → List EntryPoint
visited None entries = entries
visited (Some position) entries = option_to_list (slice_get entries position)

-- rays run the stage of some visited entry point
abbrev pub uses_ray_pipelines : the_module.Module → Option ℕ → Bool
uses_ray_pipelines whole position =
    list_any (λ entry. is_ray_stage entry.stage) (visited position whole.entry_points.items)

-- rays may be traced, by pipelines or by queries
abbrev pub may_trace_rays : the_module.Module → Bool
may_trace_rays whole =
    is_some whole.special_types.ray_desc
    || list_any (λ type. is_acceleration_structure type.inner) (values whole.types)

-- the module has the type of an intersection or of a ray query; or rays may be traced, and the stage of some visited
-- entry point is not run by rays
abbrev pub uses_ray_queries : the_module.Module → Option ℕ → Bool
uses_ray_queries whole position =
    is_some whole.special_types.ray_intersection
    || list_any (λ type. is_ray_query type.inner) (values whole.types)
    || (may_trace_rays whole
    && list_any (λ entry. not (is_ray_stage entry.stage)) (visited position whole.entry_points.items))
