-- The mesh that the output variable of a mesh shader describes.
--
-- A member of the output's structure has the number of vertices or of primitives, the vertices, the primitives, or
-- nothing, as its binding says. The last member that has one of these decides, and the first error is returned. A count
-- must be exactly a `u32`, and vertices and primitives an array whose length is known once the pipeline is made.
-- Without a topology, it is triangles; without vertices or primitives, there are at most 0 of them, of the type with
-- handle 0.
use Rattle.std.specs.Prelude.{◌≡◌, ◌<◌, ⊤, ℕ, List, [], ◌∷◌, ◌++◌, All, length, Bool, true, false, ◌==◌, if◌then◌else◌, Option, Some, None, IfSome, IsSome, IsTrue, codes, option_and_then, option_map, unwrap_or, slice_get}
use Rattle.std.specs.Int.NonZero.{non_zero_u32_get}
use Rattle.std.specs.List.{filter_map, last_or, list_any}
use Rattle.naga_arena.specs.Arena.{span_at, value_at}
use Rattle.naga_arena.specs.Span.{is_defined}
use Rattle.naga_arena.specs.WithSpan.{Spanned, bare, element_context, with_context}
use Rattle.naga_arena.specs.declared.span.Span.{Span}
use Rattle.naga_kinds.specs.declared.binding.Binding.{Binding}
use Rattle.naga_kinds.specs.declared.binding.Binding.TheVariants.{BuiltIn}
use Rattle.naga_kinds.specs.declared.builtin.BuiltIn.TheVariants as built_in
use Rattle.naga_kinds.specs.declared.entry_point.EntryPointError.{EntryPointError}
use Rattle.naga_kinds.specs.declared.entry_point.EntryPointError.TheVariants.{BadMeshOutputVariableType, BadMeshOutputVariableField}
use Rattle.naga_kinds.specs.declared.entry_point.MeshOutputTopology.{MeshOutputTopology}
use Rattle.naga_kinds.specs.declared.entry_point.MeshOutputTopology.TheVariants.{Points, Lines, Triangles}
use Rattle.naga_kinds.specs.declared.scalar.ScalarKind.{ScalarKind}
use Rattle.naga_kinds.specs.declared.scalar.ScalarKind.TheVariants.{Uint}
use Rattle.naga_ir.specs.declared.module.MeshStageInfo.{MeshStageInfo}
use Rattle.naga_ir.specs.declared.module.Module as the_module
use Rattle.naga_ir.specs.declared.module.mesh_output.Given.{Given}
use Rattle.naga_ir.specs.declared.module.mesh_output.Mesh.{Mesh}
use Rattle.naga_ir.specs.declared.module.mesh_output.MeshElements.{MeshElements}
use Rattle.naga_ir.specs.declared.module.mesh_output.MeshOutput.{MeshOutput}
use Rattle.naga_ir.specs.declared.module.mesh_output.MeshOutput.TheVariants.{VertexCount, PrimitiveCount, Vertices, Primitives}
use Rattle.naga_ir.specs.declared.types.ArraySize.TheVariants as size
use Rattle.naga_ir.specs.declared.types.StructMember.{StructMember}
use Rattle.naga_ir.specs.declared.types.«Type».{«Type» as NamedType}
use Rattle.naga_ir.specs.declared.types.TypeInner.{TypeInner}
use Rattle.naga_ir.specs.declared.types.TypeInner.TheVariants.{Scalar, Array, Struct}

-- the contents of the type with this handle, if there is one
abbrev pub inner_of : List (NamedType × Span) → ℕ → Option TypeInner
inner_of types handle = option_map (λ type. type.inner) (value_at types handle)

-- the value read from the last element from which a value can be read, if there is one
abbrev pub last_read : {X Y : Type 0} → (X → Option Y) → List X → Option Y
last_read read xs = last_or None (filter_map read xs)

-- ---- one member

-- the output of a mesh shader that a binding refers to, if it refers to one
unfoldable pub output_bound : Option Binding → Option MeshOutput
output_bound (Some (BuiltIn built_in.VertexCount)) = Some VertexCount
output_bound (Some (BuiltIn built_in.PrimitiveCount)) = Some PrimitiveCount
output_bound (Some (BuiltIn built_in.Vertices)) = Some Vertices
output_bound (Some (BuiltIn built_in.Primitives)) = Some Primitives
output_bound _ = None

abbrev pub output_of : StructMember → Option MeshOutput
output_of member = output_bound member.binding

abbrev pub is_output : MeshOutput → Option MeshOutput → Bool
is_output VertexCount (Some VertexCount) = true
is_output PrimitiveCount (Some PrimitiveCount) = true
is_output Vertices (Some Vertices) = true
is_output Primitives (Some Primitives) = true
is_output _ _ = false

-- the member contains this output
abbrev pub gives : MeshOutput → StructMember → Bool
gives output member = is_output output (output_of member)

-- ---- vertices and primitives

abbrev pub no_elements : MeshElements
no_elements = record { max = 0; max_override = None; ty = 0 }

-- the maximum number of elements of an array, the override that replaces this number, and the type of each element; no
-- elements for any other type
unfoldable pub elements_of : Option TypeInner → MeshElements
elements_of (Some (Array base (size.Constant count) stride)) =
    record { max = non_zero_u32_get count; max_override = None; ty = base }
elements_of (Some (Array base (size.Pending named) stride)) =
    record { max = 0; max_override = Some named; ty = base }
elements_of (Some (Array base size.Dynamic stride)) =
    record { max = 0; max_override = None; ty = base }
elements_of _ = no_elements

-- the vertices or the primitives that the type of a member describes, if the member contains this output
abbrev pub elements_given : List (NamedType × Span) → MeshOutput → StructMember → Option MeshElements
elements_given types output member =
    if gives output member then Some (elements_of (inner_of types member.ty)) else None

-- the topology that a binding to the indices of primitives specifies, or `None` for any other binding
unfoldable pub topology_bound : Option Binding → Option MeshOutputTopology
topology_bound (Some (BuiltIn built_in.PointIndex)) = Some Points
topology_bound (Some (BuiltIn built_in.LineIndices)) = Some Lines
topology_bound (Some (BuiltIn built_in.TriangleIndices)) = Some Triangles
topology_bound _ = None

-- the topology of a structure, which is that of its last member with such a binding, if there is one
unfoldable pub topology_of : Option TypeInner → Option MeshOutputTopology
topology_of (Some (Struct members span)) = last_read (λ member. topology_bound member.binding) members.items
topology_of _ = None

-- the topology of the primitives that a member contains, if there is one
abbrev pub topology_given : List (NamedType × Span) → StructMember → Option MeshOutputTopology
topology_given types member =
    option_and_then (λ primitives. topology_of (inner_of types primitives.ty)) (elements_given types Primitives member)

-- ---- errors

-- the scalar is an unsigned integer of four bytes
abbrev pub is_u32 : ScalarKind → (width : ℕ) → Bool
is_u32 Uint width = width == 4
is_u32 _ width = false

-- the type is exactly `u32`, as the type of a count must be
unfoldable pub is_count : Option TypeInner → Bool
is_count (Some (Scalar scalar)) = is_u32 scalar.kind scalar.width
is_count _ = false

-- the type is an array whose length is known once the pipeline is created
unfoldable pub is_sized_array : Option TypeInner → Bool
is_sized_array (Some (Array base size.Dynamic stride)) = false
is_sized_array (Some (Array base length stride)) = true
is_sized_array _ = false

-- the type is allowed for this output
abbrev pub is_fit : MeshOutput → Option TypeInner → Bool
is_fit VertexCount inner = is_count inner
is_fit PrimitiveCount inner = is_count inner
is_fit Vertices inner = is_sized_array inner
is_fit Primitives inner = is_sized_array inner

-- the errors of a member, by the output that it contains and by its type; `was_given` is `true` for the outputs that
-- earlier members contain
abbrev pub errors_of : Option MeshOutput → Option TypeInner → (MeshOutput → Bool) → List EntryPointError
errors_of None inner was_given = BadMeshOutputVariableType ∷ []
errors_of (Some output) inner was_given =
    (if is_fit output inner then [] else BadMeshOutputVariableField ∷ [])
    ++ (if was_given output then BadMeshOutputVariableType ∷ [] else [])

-- the errors of members that follow the members in `before`, in order
abbrev pub errors : List (NamedType × Span) → (before members : List StructMember) → List EntryPointError
errors types before [] = []
errors types before (member ∷ rest) =
    errors_of (output_of member) (inner_of types member.ty) (λ output. list_any (gives output) before)
    ++ errors types (before ++ member ∷ []) rest

-- ---- the mesh

-- The mesh that members describe: the topology, the vertices and the primitives of the last member that has them, and
-- the first error.
unfoldable pub mesh_of_members : List (NamedType × Span) → List StructMember → Mesh
mesh_of_members types members = record {
  topology = unwrap_or (last_read (topology_given types) members) Triangles;
  vertices = unwrap_or (last_read (elements_given types Vertices) members) no_elements;
  primitives = unwrap_or (last_read (elements_given types Primitives) members) no_elements;
  error = slice_get (errors types [] members) 0;
}

-- the mesh that the type of a variable describes; a type that is not a structure describes nothing, which is an error
unfoldable pub mesh_of : List (NamedType × Span) → Option TypeInner → Mesh
mesh_of types (Some (Struct members span)) = mesh_of_members types members.items
mesh_of types _ = record {
  topology = Triangles;
  vertices = no_elements;
  primitives = no_elements;
  error = Some BadMeshOutputVariableType;
}

-- a mesh as the information about a stage with this output variable; the overrides of the maximum numbers are not part
-- of it
abbrev pub info_of : Mesh → (variable : ℕ) → MeshStageInfo
info_of mesh variable = record {
  topology = mesh.topology;
  max_vertices = mesh.vertices.max;
  max_vertices_override = None;
  max_primitives = mesh.primitives.max;
  max_primitives_override = None;
  vertex_output_type = mesh.vertices.ty;
  primitive_output_type = mesh.primitives.ty;
  output_variable = variable;
}

-- the error with the span of a type
abbrev pub with_type_span : List (NamedType × Span) → (ty : ℕ) → EntryPointError → Spanned EntryPointError
with_type_span types ty error = with_context (bare error) (element_context (codes "Type") (span_at types ty) ty)

-- the overrides of the maximum numbers of vertices and of primitives, in this order
abbrev pub overrides_of : Mesh → List (Option ℕ)
overrides_of mesh = mesh.vertices.max_override ∷ mesh.primitives.max_override ∷ []

-- the result of analyzing an output variable: the information, the overrides, and the first error
abbrev pub Analysis : Type 0
Analysis = MeshStageInfo × List (Option ℕ) × Option (Spanned EntryPointError)

-- `answer` is the result of analyzing an output variable of a type, with the span of the type on an error
pub record TellsMesh (types : List (NamedType × Span)) (variable ty : ℕ) (answer : Analysis) : Type 0 where
  pub info : answer.0 ≡ info_of (mesh_of types (inner_of types ty)) variable
  pub overrides : answer.1 ≡ overrides_of (mesh_of types (inner_of types ty))
  pub error : answer.2 ≡ option_map (with_type_span types ty) (mesh_of types (inner_of types ty)).error

-- there is an error, and the type has a defined span, which is added to the error
pub record KeepsSpan (types : List (NamedType × Span)) (ty : ℕ) : Type 0 where
  pub error : IsSome (mesh_of types (inner_of types ty)).error
  pub span : IsTrue (is_defined (span_at types ty))

-- ---- handles that are looked up

-- the type of a member that contains an output is in `types`, and so is the type of its primitives if it contains
-- primitives
abbrev pub HasTypesFor : List (NamedType × Span) → Option MeshOutput → ℕ → Type 0
HasTypesFor types None ty = ⊤
HasTypesFor types (Some Primitives) ty = (ty < length types) × ((elements_of (inner_of types ty)).ty < length types)
HasTypesFor types (Some output) ty = ty < length types

abbrev pub HasOutputTypes : List (NamedType × Span) → StructMember → Type 0
HasOutputTypes types member = HasTypesFor types (output_of member) member.ty

-- the members of a structure, and no members for any other type
unfoldable pub members_of : Option TypeInner → List StructMember
members_of (Some (Struct members span)) = members.items
members_of _ = []

-- the variable, its type, and the types of its members that contain an output are in the module
pub record HasMeshHandles (whole : the_module.Module) (handle : ℕ) : Type 0 where
  pub variable : handle < length whole.global_variables
  pub ty : IfSome (value_at whole.global_variables handle) (λ variable. variable.ty < length whole.types)
  pub members : IfSome (value_at whole.global_variables handle)
      (λ variable. All (HasOutputTypes whole.types) (members_of (inner_of whole.types variable.ty)))

-- ---- sets of outputs

-- the set contains this output
abbrev pub was_given : Given → MeshOutput → Bool
was_given given VertexCount = given.vertex_count
was_given given PrimitiveCount = given.primitive_count
was_given given Vertices = given.vertices
was_given given Primitives = given.primitives

-- the set with this output added, if there is one
abbrev pub with_given : Given → Option MeshOutput → Given
with_given given None = given
with_given given (Some VertexCount) = record given { vertex_count = true }
with_given given (Some PrimitiveCount) = record given { primitive_count = true }
with_given given (Some Vertices) = record given { vertices = true }
with_given given (Some Primitives) = record given { primitives = true }
