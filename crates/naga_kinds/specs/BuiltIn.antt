-- The built-in values of bindings and topologies.
use Rattle.std.specs.Prelude.{Option, Some, None}
use Rattle.naga_kinds.specs.declared.binding.Binding.{Binding}
use Rattle.naga_kinds.specs.declared.binding.Binding.TheVariants.{BuiltIn, Location}
use Rattle.naga_kinds.specs.declared.builtin.BuiltIn as built_in
use Rattle.naga_kinds.specs.declared.builtin.BuiltIn.TheVariants.{PointIndex, LineIndices, TriangleIndices}
use Rattle.naga_kinds.specs.declared.entry_point.MeshOutputTopology.{MeshOutputTopology}
use Rattle.naga_kinds.specs.declared.entry_point.MeshOutputTopology.TheVariants.{Points, Lines, Triangles}

-- the built-in value of a binding, or `None` if the binding is a location
abbrev pub built_in_of : Binding → Option built_in.BuiltIn
built_in_of (BuiltIn value) = Some value
built_in_of (Location location interpolation sampling blend_src per_primitive) = None

-- the built-in that has the vertices of one primitive
abbrev pub indices_of : MeshOutputTopology → built_in.BuiltIn
indices_of Points = PointIndex
indices_of Lines = LineIndices
indices_of Triangles = TriangleIndices
