-- Made by tests/derive from the declarations of naga_kinds and naga_ir.
use Rattle.naga_text.proofs.PiecesLemmas.{OnOk-variant}
use Rattle.naga_text.specs.derived.Builtin.{built_in_text}
use Rattle.naga_text.proofs.derived.builtin.push_built_in.Goals as goal

pub returns-in-PrimitiveIndex : goal.returns-in-PrimitiveIndex
returns-in-PrimitiveIndex c = OnOk-variant built_in_text c.push.result c.args.text.now c.push.new.self c.args.built_in.now _ c.in-PrimitiveIndex.is c.push.ensures

pub returns-in-Position : goal.returns-in-Position
returns-in-Position c = OnOk-variant built_in_text c.push_flagged.result c.args.text.now c.push_flagged.new.text c.args.built_in.now _ c.in-Position.is c.push_flagged.ensures

pub returns-in-ViewIndex : goal.returns-in-ViewIndex
returns-in-ViewIndex c = OnOk-variant built_in_text c.push-in-ViewIndex.result c.args.text.now c.push-in-ViewIndex.new.self c.args.built_in.now _ c.in-ViewIndex.is c.push-in-ViewIndex.ensures

pub returns-in-BaseInstance : goal.returns-in-BaseInstance
returns-in-BaseInstance c = OnOk-variant built_in_text c.push-in-BaseInstance.result c.args.text.now c.push-in-BaseInstance.new.self c.args.built_in.now _ c.in-BaseInstance.is c.push-in-BaseInstance.ensures

pub returns-in-BaseVertex : goal.returns-in-BaseVertex
returns-in-BaseVertex c = OnOk-variant built_in_text c.push-in-BaseVertex.result c.args.text.now c.push-in-BaseVertex.new.self c.args.built_in.now _ c.in-BaseVertex.is c.push-in-BaseVertex.ensures

pub returns-in-ClipDistances : goal.returns-in-ClipDistances
returns-in-ClipDistances c = OnOk-variant built_in_text c.push-in-ClipDistances.result c.args.text.now c.push-in-ClipDistances.new.self c.args.built_in.now _ c.in-ClipDistances.is c.push-in-ClipDistances.ensures

pub returns-in-CullDistance : goal.returns-in-CullDistance
returns-in-CullDistance c = OnOk-variant built_in_text c.push-in-CullDistance.result c.args.text.now c.push-in-CullDistance.new.self c.args.built_in.now _ c.in-CullDistance.is c.push-in-CullDistance.ensures

pub returns-in-InstanceIndex : goal.returns-in-InstanceIndex
returns-in-InstanceIndex c = OnOk-variant built_in_text c.push-in-InstanceIndex.result c.args.text.now c.push-in-InstanceIndex.new.self c.args.built_in.now _ c.in-InstanceIndex.is c.push-in-InstanceIndex.ensures

pub returns-in-PointSize : goal.returns-in-PointSize
returns-in-PointSize c = OnOk-variant built_in_text c.push-in-PointSize.result c.args.text.now c.push-in-PointSize.new.self c.args.built_in.now _ c.in-PointSize.is c.push-in-PointSize.ensures

pub returns-in-VertexIndex : goal.returns-in-VertexIndex
returns-in-VertexIndex c = OnOk-variant built_in_text c.push-in-VertexIndex.result c.args.text.now c.push-in-VertexIndex.new.self c.args.built_in.now _ c.in-VertexIndex.is c.push-in-VertexIndex.ensures

pub returns-in-DrawIndex : goal.returns-in-DrawIndex
returns-in-DrawIndex c = OnOk-variant built_in_text c.push-in-DrawIndex.result c.args.text.now c.push-in-DrawIndex.new.self c.args.built_in.now _ c.in-DrawIndex.is c.push-in-DrawIndex.ensures

pub returns-in-FragDepth : goal.returns-in-FragDepth
returns-in-FragDepth c = OnOk-variant built_in_text c.push-in-FragDepth.result c.args.text.now c.push-in-FragDepth.new.self c.args.built_in.now _ c.in-FragDepth.is c.push-in-FragDepth.ensures

pub returns-in-PointCoord : goal.returns-in-PointCoord
returns-in-PointCoord c = OnOk-variant built_in_text c.push-in-PointCoord.result c.args.text.now c.push-in-PointCoord.new.self c.args.built_in.now _ c.in-PointCoord.is c.push-in-PointCoord.ensures

pub returns-in-FrontFacing : goal.returns-in-FrontFacing
returns-in-FrontFacing c = OnOk-variant built_in_text c.push-in-FrontFacing.result c.args.text.now c.push-in-FrontFacing.new.self c.args.built_in.now _ c.in-FrontFacing.is c.push-in-FrontFacing.ensures

pub returns-in-Barycentric : goal.returns-in-Barycentric
returns-in-Barycentric c = OnOk-variant built_in_text c.push_flagged-in-Barycentric.result c.args.text.now c.push_flagged-in-Barycentric.new.text c.args.built_in.now _ c.in-Barycentric.is c.push_flagged-in-Barycentric.ensures

pub returns-in-SampleIndex : goal.returns-in-SampleIndex
returns-in-SampleIndex c = OnOk-variant built_in_text c.push-in-SampleIndex.result c.args.text.now c.push-in-SampleIndex.new.self c.args.built_in.now _ c.in-SampleIndex.is c.push-in-SampleIndex.ensures

pub returns-in-SampleMask : goal.returns-in-SampleMask
returns-in-SampleMask c = OnOk-variant built_in_text c.push-in-SampleMask.result c.args.text.now c.push-in-SampleMask.new.self c.args.built_in.now _ c.in-SampleMask.is c.push-in-SampleMask.ensures

pub returns-in-GlobalInvocationId : goal.returns-in-GlobalInvocationId
returns-in-GlobalInvocationId c = OnOk-variant built_in_text c.push-in-GlobalInvocationId.result c.args.text.now c.push-in-GlobalInvocationId.new.self c.args.built_in.now _ c.in-GlobalInvocationId.is c.push-in-GlobalInvocationId.ensures

pub returns-in-LocalInvocationId : goal.returns-in-LocalInvocationId
returns-in-LocalInvocationId c = OnOk-variant built_in_text c.push-in-LocalInvocationId.result c.args.text.now c.push-in-LocalInvocationId.new.self c.args.built_in.now _ c.in-LocalInvocationId.is c.push-in-LocalInvocationId.ensures

pub returns-in-LocalInvocationIndex : goal.returns-in-LocalInvocationIndex
returns-in-LocalInvocationIndex c = OnOk-variant built_in_text c.push-in-LocalInvocationIndex.result c.args.text.now c.push-in-LocalInvocationIndex.new.self c.args.built_in.now _ c.in-LocalInvocationIndex.is c.push-in-LocalInvocationIndex.ensures

pub returns-in-WorkGroupId : goal.returns-in-WorkGroupId
returns-in-WorkGroupId c = OnOk-variant built_in_text c.push-in-WorkGroupId.result c.args.text.now c.push-in-WorkGroupId.new.self c.args.built_in.now _ c.in-WorkGroupId.is c.push-in-WorkGroupId.ensures

pub returns-in-WorkGroupSize : goal.returns-in-WorkGroupSize
returns-in-WorkGroupSize c = OnOk-variant built_in_text c.push-in-WorkGroupSize.result c.args.text.now c.push-in-WorkGroupSize.new.self c.args.built_in.now _ c.in-WorkGroupSize.is c.push-in-WorkGroupSize.ensures

pub returns-in-NumWorkGroups : goal.returns-in-NumWorkGroups
returns-in-NumWorkGroups c = OnOk-variant built_in_text c.push-in-NumWorkGroups.result c.args.text.now c.push-in-NumWorkGroups.new.self c.args.built_in.now _ c.in-NumWorkGroups.is c.push-in-NumWorkGroups.ensures

pub returns-in-NumSubgroups : goal.returns-in-NumSubgroups
returns-in-NumSubgroups c = OnOk-variant built_in_text c.push-in-NumSubgroups.result c.args.text.now c.push-in-NumSubgroups.new.self c.args.built_in.now _ c.in-NumSubgroups.is c.push-in-NumSubgroups.ensures

pub returns-in-SubgroupId : goal.returns-in-SubgroupId
returns-in-SubgroupId c = OnOk-variant built_in_text c.push-in-SubgroupId.result c.args.text.now c.push-in-SubgroupId.new.self c.args.built_in.now _ c.in-SubgroupId.is c.push-in-SubgroupId.ensures

pub returns-in-SubgroupSize : goal.returns-in-SubgroupSize
returns-in-SubgroupSize c = OnOk-variant built_in_text c.push-in-SubgroupSize.result c.args.text.now c.push-in-SubgroupSize.new.self c.args.built_in.now _ c.in-SubgroupSize.is c.push-in-SubgroupSize.ensures

pub returns-in-SubgroupInvocationId : goal.returns-in-SubgroupInvocationId
returns-in-SubgroupInvocationId c = OnOk-variant built_in_text c.push-in-SubgroupInvocationId.result c.args.text.now c.push-in-SubgroupInvocationId.new.self c.args.built_in.now _ c.in-SubgroupInvocationId.is c.push-in-SubgroupInvocationId.ensures

pub returns-in-MeshTaskSize : goal.returns-in-MeshTaskSize
returns-in-MeshTaskSize c = OnOk-variant built_in_text c.push-in-MeshTaskSize.result c.args.text.now c.push-in-MeshTaskSize.new.self c.args.built_in.now _ c.in-MeshTaskSize.is c.push-in-MeshTaskSize.ensures

pub returns-in-CullPrimitive : goal.returns-in-CullPrimitive
returns-in-CullPrimitive c = OnOk-variant built_in_text c.push-in-CullPrimitive.result c.args.text.now c.push-in-CullPrimitive.new.self c.args.built_in.now _ c.in-CullPrimitive.is c.push-in-CullPrimitive.ensures

pub returns-in-PointIndex : goal.returns-in-PointIndex
returns-in-PointIndex c = OnOk-variant built_in_text c.push-in-PointIndex.result c.args.text.now c.push-in-PointIndex.new.self c.args.built_in.now _ c.in-PointIndex.is c.push-in-PointIndex.ensures

pub returns-in-LineIndices : goal.returns-in-LineIndices
returns-in-LineIndices c = OnOk-variant built_in_text c.push-in-LineIndices.result c.args.text.now c.push-in-LineIndices.new.self c.args.built_in.now _ c.in-LineIndices.is c.push-in-LineIndices.ensures

pub returns-in-TriangleIndices : goal.returns-in-TriangleIndices
returns-in-TriangleIndices c = OnOk-variant built_in_text c.push-in-TriangleIndices.result c.args.text.now c.push-in-TriangleIndices.new.self c.args.built_in.now _ c.in-TriangleIndices.is c.push-in-TriangleIndices.ensures

pub returns-in-VertexCount : goal.returns-in-VertexCount
returns-in-VertexCount c = OnOk-variant built_in_text c.push-in-VertexCount.result c.args.text.now c.push-in-VertexCount.new.self c.args.built_in.now _ c.in-VertexCount.is c.push-in-VertexCount.ensures

pub returns-in-Vertices : goal.returns-in-Vertices
returns-in-Vertices c = OnOk-variant built_in_text c.push-in-Vertices.result c.args.text.now c.push-in-Vertices.new.self c.args.built_in.now _ c.in-Vertices.is c.push-in-Vertices.ensures

pub returns-in-PrimitiveCount : goal.returns-in-PrimitiveCount
returns-in-PrimitiveCount c = OnOk-variant built_in_text c.push-in-PrimitiveCount.result c.args.text.now c.push-in-PrimitiveCount.new.self c.args.built_in.now _ c.in-PrimitiveCount.is c.push-in-PrimitiveCount.ensures

pub returns-in-Primitives : goal.returns-in-Primitives
returns-in-Primitives c = OnOk-variant built_in_text c.push-in-Primitives.result c.args.text.now c.push-in-Primitives.new.self c.args.built_in.now _ c.in-Primitives.is c.push-in-Primitives.ensures

pub returns-in-RayInvocationId : goal.returns-in-RayInvocationId
returns-in-RayInvocationId c = OnOk-variant built_in_text c.push-in-RayInvocationId.result c.args.text.now c.push-in-RayInvocationId.new.self c.args.built_in.now _ c.in-RayInvocationId.is c.push-in-RayInvocationId.ensures

pub returns-in-NumRayInvocations : goal.returns-in-NumRayInvocations
returns-in-NumRayInvocations c = OnOk-variant built_in_text c.push-in-NumRayInvocations.result c.args.text.now c.push-in-NumRayInvocations.new.self c.args.built_in.now _ c.in-NumRayInvocations.is c.push-in-NumRayInvocations.ensures

pub returns-in-InstanceCustomData : goal.returns-in-InstanceCustomData
returns-in-InstanceCustomData c = OnOk-variant built_in_text c.push-in-InstanceCustomData.result c.args.text.now c.push-in-InstanceCustomData.new.self c.args.built_in.now _ c.in-InstanceCustomData.is c.push-in-InstanceCustomData.ensures

pub returns-in-GeometryIndex : goal.returns-in-GeometryIndex
returns-in-GeometryIndex c = OnOk-variant built_in_text c.push-in-GeometryIndex.result c.args.text.now c.push-in-GeometryIndex.new.self c.args.built_in.now _ c.in-GeometryIndex.is c.push-in-GeometryIndex.ensures

pub returns-in-WorldRayOrigin : goal.returns-in-WorldRayOrigin
returns-in-WorldRayOrigin c = OnOk-variant built_in_text c.push-in-WorldRayOrigin.result c.args.text.now c.push-in-WorldRayOrigin.new.self c.args.built_in.now _ c.in-WorldRayOrigin.is c.push-in-WorldRayOrigin.ensures

pub returns-in-WorldRayDirection : goal.returns-in-WorldRayDirection
returns-in-WorldRayDirection c = OnOk-variant built_in_text c.push-in-WorldRayDirection.result c.args.text.now c.push-in-WorldRayDirection.new.self c.args.built_in.now _ c.in-WorldRayDirection.is c.push-in-WorldRayDirection.ensures

pub returns-in-ObjectRayOrigin : goal.returns-in-ObjectRayOrigin
returns-in-ObjectRayOrigin c = OnOk-variant built_in_text c.push-in-ObjectRayOrigin.result c.args.text.now c.push-in-ObjectRayOrigin.new.self c.args.built_in.now _ c.in-ObjectRayOrigin.is c.push-in-ObjectRayOrigin.ensures

pub returns-in-ObjectRayDirection : goal.returns-in-ObjectRayDirection
returns-in-ObjectRayDirection c = OnOk-variant built_in_text c.push-in-ObjectRayDirection.result c.args.text.now c.push-in-ObjectRayDirection.new.self c.args.built_in.now _ c.in-ObjectRayDirection.is c.push-in-ObjectRayDirection.ensures

pub returns-in-RayTmin : goal.returns-in-RayTmin
returns-in-RayTmin c = OnOk-variant built_in_text c.push-in-RayTmin.result c.args.text.now c.push-in-RayTmin.new.self c.args.built_in.now _ c.in-RayTmin.is c.push-in-RayTmin.ensures

pub returns-in-RayTCurrentMax : goal.returns-in-RayTCurrentMax
returns-in-RayTCurrentMax c = OnOk-variant built_in_text c.push-in-RayTCurrentMax.result c.args.text.now c.push-in-RayTCurrentMax.new.self c.args.built_in.now _ c.in-RayTCurrentMax.is c.push-in-RayTCurrentMax.ensures

pub returns-in-ObjectToWorld : goal.returns-in-ObjectToWorld
returns-in-ObjectToWorld c = OnOk-variant built_in_text c.push-in-ObjectToWorld.result c.args.text.now c.push-in-ObjectToWorld.new.self c.args.built_in.now _ c.in-ObjectToWorld.is c.push-in-ObjectToWorld.ensures

pub returns-in-WorldToObject : goal.returns-in-WorldToObject
returns-in-WorldToObject c = OnOk-variant built_in_text c.push-in-WorldToObject.result c.args.text.now c.push-in-WorldToObject.new.self c.args.built_in.now _ c.in-WorldToObject.is c.push-in-WorldToObject.ensures

pub returns-in-HitKind : goal.returns-in-HitKind
returns-in-HitKind c = OnOk-variant built_in_text c.push-in-HitKind.result c.args.text.now c.push-in-HitKind.new.self c.args.built_in.now _ c.in-HitKind.is c.push-in-HitKind.ensures
