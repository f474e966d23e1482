-- Made by tests/derive from the declarations of naga_kinds and naga_ir.
-- The texts of the enums of `builtin`.
use Rattle.std.specs.Prelude.{codes, List, ℕ, ◌++◌}
use Rattle.naga_text.specs.Words.{flag}
use Rattle.naga_kinds.specs.declared.builtin.BuiltIn.{BuiltIn}
use Rattle.naga_kinds.specs.declared.builtin.BuiltIn.TheVariants as built_in

-- a `BuiltIn`, with a space before it
abbrev pub built_in_text : BuiltIn → List ℕ
built_in_text built_in.PrimitiveIndex = codes " PrimitiveIndex"
built_in_text (built_in.Position invariant) = codes " Position" ++ flag invariant (codes "invariant")
built_in_text built_in.ViewIndex = codes " ViewIndex"
built_in_text built_in.BaseInstance = codes " BaseInstance"
built_in_text built_in.BaseVertex = codes " BaseVertex"
built_in_text built_in.ClipDistances = codes " ClipDistances"
built_in_text built_in.CullDistance = codes " CullDistance"
built_in_text built_in.InstanceIndex = codes " InstanceIndex"
built_in_text built_in.PointSize = codes " PointSize"
built_in_text built_in.VertexIndex = codes " VertexIndex"
built_in_text built_in.DrawIndex = codes " DrawIndex"
built_in_text built_in.FragDepth = codes " FragDepth"
built_in_text built_in.PointCoord = codes " PointCoord"
built_in_text built_in.FrontFacing = codes " FrontFacing"
built_in_text (built_in.Barycentric perspective) = codes " Barycentric" ++ flag perspective (codes "perspective")
built_in_text built_in.SampleIndex = codes " SampleIndex"
built_in_text built_in.SampleMask = codes " SampleMask"
built_in_text built_in.GlobalInvocationId = codes " GlobalInvocationId"
built_in_text built_in.LocalInvocationId = codes " LocalInvocationId"
built_in_text built_in.LocalInvocationIndex = codes " LocalInvocationIndex"
built_in_text built_in.WorkGroupId = codes " WorkGroupId"
built_in_text built_in.WorkGroupSize = codes " WorkGroupSize"
built_in_text built_in.NumWorkGroups = codes " NumWorkGroups"
built_in_text built_in.NumSubgroups = codes " NumSubgroups"
built_in_text built_in.SubgroupId = codes " SubgroupId"
built_in_text built_in.SubgroupSize = codes " SubgroupSize"
built_in_text built_in.SubgroupInvocationId = codes " SubgroupInvocationId"
built_in_text built_in.MeshTaskSize = codes " MeshTaskSize"
built_in_text built_in.CullPrimitive = codes " CullPrimitive"
built_in_text built_in.PointIndex = codes " PointIndex"
built_in_text built_in.LineIndices = codes " LineIndices"
built_in_text built_in.TriangleIndices = codes " TriangleIndices"
built_in_text built_in.VertexCount = codes " VertexCount"
built_in_text built_in.Vertices = codes " Vertices"
built_in_text built_in.PrimitiveCount = codes " PrimitiveCount"
built_in_text built_in.Primitives = codes " Primitives"
built_in_text built_in.RayInvocationId = codes " RayInvocationId"
built_in_text built_in.NumRayInvocations = codes " NumRayInvocations"
built_in_text built_in.InstanceCustomData = codes " InstanceCustomData"
built_in_text built_in.GeometryIndex = codes " GeometryIndex"
built_in_text built_in.WorldRayOrigin = codes " WorldRayOrigin"
built_in_text built_in.WorldRayDirection = codes " WorldRayDirection"
built_in_text built_in.ObjectRayOrigin = codes " ObjectRayOrigin"
built_in_text built_in.ObjectRayDirection = codes " ObjectRayDirection"
built_in_text built_in.RayTmin = codes " RayTmin"
built_in_text built_in.RayTCurrentMax = codes " RayTCurrentMax"
built_in_text built_in.ObjectToWorld = codes " ObjectToWorld"
built_in_text built_in.WorldToObject = codes " WorldToObject"
built_in_text built_in.HitKind = codes " HitKind"
