-- Made by tests/derive from the declarations of naga_kinds and naga_ir.
-- How values are written and read whose types are declared in the module `builtin`.
use Rattle.std.specs.Prelude.{[], codes, List, Option, ℕ, ◌∷◌}
use Rattle.json.specs.Json.{Json}
use Rattle.naga_json.specs.Codec.{boolean_codec, Codec}
use Rattle.naga_json.specs.Fields.{field, no_fields}
use Rattle.naga_json.specs.Variants.{enum_codec, holding, holds_fields, Payload, row, Variant, word}
use Rattle.naga_kinds.specs.declared.builtin.BuiltIn.{BuiltIn}
use Rattle.naga_kinds.specs.declared.builtin.BuiltIn.TheVariants as built_in

-- a `Position`
abbrev pub built_in_position : Variant BuiltIn
built_in_position =
    holds_fields (codes "Position")
    (field (codes "invariant") boolean_codec no_fields)
    (λ parts. built_in.Position parts.0)

-- a `Barycentric`
abbrev pub built_in_barycentric : Variant BuiltIn
built_in_barycentric =
    holds_fields (codes "Barycentric")
    (field (codes "perspective") boolean_codec no_fields)
    (λ parts. built_in.Barycentric parts.0)

-- the variants of `BuiltIn` that are names alone
abbrev pub built_in_names : List (List ℕ × BuiltIn)
built_in_names =
    (codes "PrimitiveIndex", built_in.PrimitiveIndex) ∷
    (codes "ViewIndex", built_in.ViewIndex) ∷
    (codes "BaseInstance", built_in.BaseInstance) ∷
    (codes "BaseVertex", built_in.BaseVertex) ∷
    (codes "ClipDistances", built_in.ClipDistances) ∷
    (codes "CullDistance", built_in.CullDistance) ∷
    (codes "InstanceIndex", built_in.InstanceIndex) ∷
    (codes "PointSize", built_in.PointSize) ∷
    (codes "VertexIndex", built_in.VertexIndex) ∷
    (codes "DrawIndex", built_in.DrawIndex) ∷
    (codes "FragDepth", built_in.FragDepth) ∷
    (codes "PointCoord", built_in.PointCoord) ∷
    (codes "FrontFacing", built_in.FrontFacing) ∷
    (codes "SampleIndex", built_in.SampleIndex) ∷
    (codes "SampleMask", built_in.SampleMask) ∷
    (codes "GlobalInvocationId", built_in.GlobalInvocationId) ∷
    (codes "LocalInvocationId", built_in.LocalInvocationId) ∷
    (codes "LocalInvocationIndex", built_in.LocalInvocationIndex) ∷
    (codes "WorkGroupId", built_in.WorkGroupId) ∷
    (codes "WorkGroupSize", built_in.WorkGroupSize) ∷
    (codes "NumWorkGroups", built_in.NumWorkGroups) ∷
    (codes "NumSubgroups", built_in.NumSubgroups) ∷
    (codes "SubgroupId", built_in.SubgroupId) ∷
    (codes "SubgroupSize", built_in.SubgroupSize) ∷
    (codes "SubgroupInvocationId", built_in.SubgroupInvocationId) ∷
    (codes "MeshTaskSize", built_in.MeshTaskSize) ∷
    (codes "CullPrimitive", built_in.CullPrimitive) ∷
    (codes "PointIndex", built_in.PointIndex) ∷
    (codes "LineIndices", built_in.LineIndices) ∷
    (codes "TriangleIndices", built_in.TriangleIndices) ∷
    (codes "VertexCount", built_in.VertexCount) ∷
    (codes "Vertices", built_in.Vertices) ∷
    (codes "PrimitiveCount", built_in.PrimitiveCount) ∷
    (codes "Primitives", built_in.Primitives) ∷
    (codes "RayInvocationId", built_in.RayInvocationId) ∷
    (codes "NumRayInvocations", built_in.NumRayInvocations) ∷
    (codes "InstanceCustomData", built_in.InstanceCustomData) ∷
    (codes "GeometryIndex", built_in.GeometryIndex) ∷
    (codes "WorldRayOrigin", built_in.WorldRayOrigin) ∷
    (codes "WorldRayDirection", built_in.WorldRayDirection) ∷
    (codes "ObjectRayOrigin", built_in.ObjectRayOrigin) ∷
    (codes "ObjectRayDirection", built_in.ObjectRayDirection) ∷
    (codes "RayTmin", built_in.RayTmin) ∷
    (codes "RayTCurrentMax", built_in.RayTCurrentMax) ∷
    (codes "ObjectToWorld", built_in.ObjectToWorld) ∷
    (codes "WorldToObject", built_in.WorldToObject) ∷
    (codes "HitKind", built_in.HitKind) ∷
    []

-- the variants of `BuiltIn` that contain data
abbrev pub built_in_rows : Json → List (List ℕ × Option BuiltIn)
built_in_rows held =
    row built_in_position held ∷
    row built_in_barycentric held ∷
    []

-- how a `BuiltIn` is written
abbrev pub built_in_payload : BuiltIn → Payload
built_in_payload built_in.PrimitiveIndex = word (codes "PrimitiveIndex")
built_in_payload (built_in.Position invariant) = holding built_in_position (invariant, tt)
built_in_payload built_in.ViewIndex = word (codes "ViewIndex")
built_in_payload built_in.BaseInstance = word (codes "BaseInstance")
built_in_payload built_in.BaseVertex = word (codes "BaseVertex")
built_in_payload built_in.ClipDistances = word (codes "ClipDistances")
built_in_payload built_in.CullDistance = word (codes "CullDistance")
built_in_payload built_in.InstanceIndex = word (codes "InstanceIndex")
built_in_payload built_in.PointSize = word (codes "PointSize")
built_in_payload built_in.VertexIndex = word (codes "VertexIndex")
built_in_payload built_in.DrawIndex = word (codes "DrawIndex")
built_in_payload built_in.FragDepth = word (codes "FragDepth")
built_in_payload built_in.PointCoord = word (codes "PointCoord")
built_in_payload built_in.FrontFacing = word (codes "FrontFacing")
built_in_payload (built_in.Barycentric perspective) = holding built_in_barycentric (perspective, tt)
built_in_payload built_in.SampleIndex = word (codes "SampleIndex")
built_in_payload built_in.SampleMask = word (codes "SampleMask")
built_in_payload built_in.GlobalInvocationId = word (codes "GlobalInvocationId")
built_in_payload built_in.LocalInvocationId = word (codes "LocalInvocationId")
built_in_payload built_in.LocalInvocationIndex = word (codes "LocalInvocationIndex")
built_in_payload built_in.WorkGroupId = word (codes "WorkGroupId")
built_in_payload built_in.WorkGroupSize = word (codes "WorkGroupSize")
built_in_payload built_in.NumWorkGroups = word (codes "NumWorkGroups")
built_in_payload built_in.NumSubgroups = word (codes "NumSubgroups")
built_in_payload built_in.SubgroupId = word (codes "SubgroupId")
built_in_payload built_in.SubgroupSize = word (codes "SubgroupSize")
built_in_payload built_in.SubgroupInvocationId = word (codes "SubgroupInvocationId")
built_in_payload built_in.MeshTaskSize = word (codes "MeshTaskSize")
built_in_payload built_in.CullPrimitive = word (codes "CullPrimitive")
built_in_payload built_in.PointIndex = word (codes "PointIndex")
built_in_payload built_in.LineIndices = word (codes "LineIndices")
built_in_payload built_in.TriangleIndices = word (codes "TriangleIndices")
built_in_payload built_in.VertexCount = word (codes "VertexCount")
built_in_payload built_in.Vertices = word (codes "Vertices")
built_in_payload built_in.PrimitiveCount = word (codes "PrimitiveCount")
built_in_payload built_in.Primitives = word (codes "Primitives")
built_in_payload built_in.RayInvocationId = word (codes "RayInvocationId")
built_in_payload built_in.NumRayInvocations = word (codes "NumRayInvocations")
built_in_payload built_in.InstanceCustomData = word (codes "InstanceCustomData")
built_in_payload built_in.GeometryIndex = word (codes "GeometryIndex")
built_in_payload built_in.WorldRayOrigin = word (codes "WorldRayOrigin")
built_in_payload built_in.WorldRayDirection = word (codes "WorldRayDirection")
built_in_payload built_in.ObjectRayOrigin = word (codes "ObjectRayOrigin")
built_in_payload built_in.ObjectRayDirection = word (codes "ObjectRayDirection")
built_in_payload built_in.RayTmin = word (codes "RayTmin")
built_in_payload built_in.RayTCurrentMax = word (codes "RayTCurrentMax")
built_in_payload built_in.ObjectToWorld = word (codes "ObjectToWorld")
built_in_payload built_in.WorldToObject = word (codes "WorldToObject")
built_in_payload built_in.HitKind = word (codes "HitKind")

-- a `BuiltIn`
abbrev pub built_in_codec : Codec BuiltIn
built_in_codec = enum_codec built_in_names built_in_rows built_in_payload
