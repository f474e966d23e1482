-- Made by tests/derive from the declarations of naga_kinds and naga_ir.
-- Values whose types are declared in the module `builtin` are read as they are written.
use Rattle.std.proofs.Common.{refl}
use Rattle.std.specs.List.{AllByRecursion}
use Rattle.json.specs.Json.{Json}
use Rattle.naga_json.specs.Lawful.{Gives, IsRead, Lawful}
use Rattle.naga_json.proofs.CodecLemmas.{lawful-boolean}
use Rattle.naga_json.proofs.FieldsLemmas.{contains, distinct, lawful-field, lawful-no_fields}
use Rattle.naga_json.proofs.VariantsLemmas.{gives-enum, is_word, lawful-holds_fields, LawfulVariant}
use Rattle.naga_kinds.specs.declared.builtin.BuiltIn.{BuiltIn}
use Rattle.naga_kinds.specs.declared.builtin.BuiltIn.TheVariants as built_in
use Rattle.naga_json.specs.derived.Builtin.{built_in_barycentric, built_in_codec, built_in_names, built_in_position, built_in_rows}

lawful-built_in_position : LawfulVariant built_in_position
unfolding distinct contains
lawful-built_in_position = lawful-holds_fields _ _ _ (lawful-field _ _ _ lawful-boolean lawful-no_fields) refl

lawful-built_in_barycentric : LawfulVariant built_in_barycentric
unfolding distinct contains
lawful-built_in_barycentric = lawful-holds_fields _ _ _ (lawful-field _ _ _ lawful-boolean lawful-no_fields) refl

pub lawful-built_in : Lawful built_in_codec
lawful-built_in = record { reads = reads; gives = gives-enum built_in_codec.Fits built_in_names built_in_rows (search) each }
  where
    reads : (value : BuiltIn) → built_in_codec.Fits value → IsRead built_in_codec.decode value (built_in_codec.encode value)
    reads built_in.PrimitiveIndex fits = is_word refl
    reads (built_in.Position invariant) fits = lawful-built_in_position.reads (invariant, tt) fits built_in_codec.decode (λ held. refl)
    reads built_in.ViewIndex fits = is_word refl
    reads built_in.BaseInstance fits = is_word refl
    reads built_in.BaseVertex fits = is_word refl
    reads built_in.ClipDistances fits = is_word refl
    reads built_in.CullDistance fits = is_word refl
    reads built_in.InstanceIndex fits = is_word refl
    reads built_in.PointSize fits = is_word refl
    reads built_in.VertexIndex fits = is_word refl
    reads built_in.DrawIndex fits = is_word refl
    reads built_in.FragDepth fits = is_word refl
    reads built_in.PointCoord fits = is_word refl
    reads built_in.FrontFacing fits = is_word refl
    reads (built_in.Barycentric perspective) fits = lawful-built_in_barycentric.reads (perspective, tt) fits built_in_codec.decode (λ held. refl)
    reads built_in.SampleIndex fits = is_word refl
    reads built_in.SampleMask fits = is_word refl
    reads built_in.GlobalInvocationId fits = is_word refl
    reads built_in.LocalInvocationId fits = is_word refl
    reads built_in.LocalInvocationIndex fits = is_word refl
    reads built_in.WorkGroupId fits = is_word refl
    reads built_in.WorkGroupSize fits = is_word refl
    reads built_in.NumWorkGroups fits = is_word refl
    reads built_in.NumSubgroups fits = is_word refl
    reads built_in.SubgroupId fits = is_word refl
    reads built_in.SubgroupSize fits = is_word refl
    reads built_in.SubgroupInvocationId fits = is_word refl
    reads built_in.MeshTaskSize fits = is_word refl
    reads built_in.CullPrimitive fits = is_word refl
    reads built_in.PointIndex fits = is_word refl
    reads built_in.LineIndices fits = is_word refl
    reads built_in.TriangleIndices fits = is_word refl
    reads built_in.VertexCount fits = is_word refl
    reads built_in.Vertices fits = is_word refl
    reads built_in.PrimitiveCount fits = is_word refl
    reads built_in.Primitives fits = is_word refl
    reads built_in.RayInvocationId fits = is_word refl
    reads built_in.NumRayInvocations fits = is_word refl
    reads built_in.InstanceCustomData fits = is_word refl
    reads built_in.GeometryIndex fits = is_word refl
    reads built_in.WorldRayOrigin fits = is_word refl
    reads built_in.WorldRayDirection fits = is_word refl
    reads built_in.ObjectRayOrigin fits = is_word refl
    reads built_in.ObjectRayDirection fits = is_word refl
    reads built_in.RayTmin fits = is_word refl
    reads built_in.RayTCurrentMax fits = is_word refl
    reads built_in.ObjectToWorld fits = is_word refl
    reads built_in.WorldToObject fits = is_word refl
    reads built_in.HitKind fits = is_word refl

    each : (held : Json) → AllByRecursion (λ row. Gives built_in_codec.Fits row.1) (built_in_rows held)
    each held = (lawful-built_in_position.gives built_in_codec.Fits (λ parts fits. fits) held, (lawful-built_in_barycentric.gives built_in_codec.Fits (λ parts fits. fits) held, tt))
