-- The mesh that members describe, with one more member.
use Rattle.std.proofs.Common.{◌≡◌, ◌∙◌, ℕ, ◌+◌, ◌<◌, ◌||◌, Bool, false, List, [], ◌∷◌, ◌++◌, Option, None, Some, length, take, get_or, refl, sym, ap, subst, append_assoc}
use Rattle.std.specs.Prelude.{All, slice_get, unwrap_or}
use Rattle.std.specs.Option.{option_or}
use Rattle.std.specs.List.{cons_option, filter_map, last_or, list_any}
use Rattle.std.proofs.Math.Bool.{or_comm}
use Rattle.std.proofs.lemmas.List.{append-nil, take_more}
use Rattle.std.proofs.lemmas.List.Elements.{filter_map-append}
use Rattle.naga_arena.specs.declared.span.Span.{Span}
use Rattle.naga_kinds.specs.declared.entry_point.EntryPointError.{EntryPointError}
use Rattle.naga_kinds.specs.declared.entry_point.MeshOutputTopology.TheVariants.{Triangles}
use Rattle.naga_ir.proofs.ListAnyLemmas.{list_any-push}
use Rattle.naga_ir.specs.MeshOutput.{HasOutputTypes, HasTypesFor, elements_given, errors, errors_of, gives, inner_of, is_output, last_read, mesh_of_members, no_elements, output_of, topology_given, was_given, with_given}
use Rattle.naga_ir.specs.declared.module.mesh_output.Given.{Given}
use Rattle.naga_ir.specs.declared.module.mesh_output.Mesh.{Mesh}
use Rattle.naga_ir.specs.declared.module.mesh_output.MeshElements.{MeshElements}
use Rattle.naga_ir.specs.declared.module.mesh_output.MeshOutput.{MeshOutput}
use Rattle.naga_ir.specs.declared.module.mesh_output.MeshOutput.TheVariants.{VertexCount, PrimitiveCount, Vertices, Primitives}
use Rattle.naga_ir.specs.declared.types.StructMember.{StructMember}
use Rattle.naga_ir.specs.declared.types.«Type».{«Type» as NamedType}

-- ---- the last value that is read, and the first element of a list

last_or-cons_option : {Y : Type 0} (found given : Option Y) → last_or given (cons_option found []) ≡ option_or found given
last_or-cons_option None given = refl
last_or-cons_option (Some y) given = refl

last_or-append : {Y : Type 0} (given : Option Y) (xs ys : List Y) → last_or given (xs ++ ys) ≡ last_or (last_or given xs) ys
last_or-append given [] ys = refl
last_or-append given (x ∷ xs) ys = last_or-append (Some x) xs ys

module _ {X Y : Type 0} (read : X → Option Y) where
  pub last_read-push : (xs : List X) (x : X) → last_read read (xs ++ x ∷ []) ≡ option_or (read x) (last_read read xs)
  last_read-push xs x =
      ap (last_or None) (filter_map-append read xs (x ∷ [])) ∙ last_or-append None (filter_map read xs) (filter_map read (x ∷ [])) ∙ last_or-cons_option (read x) (last_read read xs)

  -- the form of `last_read-push` for one iteration of a loop
  pub last_read-take_more : (xs : List X) (i : ℕ) (x : X) → i < length xs → x ≡ get_or xs i x → last_read read (take (i + 1) xs) ≡ option_or (read x) (last_read read (take i xs))
  last_read-take_more xs i x within is =
      ap (last_read read) (take_more xs i x within ∙ ap (λ y. take i xs ++ y ∷ []) (sym is)) ∙ last_read-push (take i xs) x

unwrap_or-option_or : {Y : Type 0} (first second : Option Y) (default : Y) → unwrap_or (option_or first second) default ≡ unwrap_or first (unwrap_or second default)
unwrap_or-option_or None second default = refl
unwrap_or-option_or (Some y) second default = refl

slice_get-append_first : {Y : Type 0} (xs ys : List Y) → slice_get (xs ++ ys) 0 ≡ option_or (slice_get xs 0) (slice_get ys 0)
slice_get-append_first [] ys = refl
slice_get-append_first (x ∷ xs) ys = refl

-- ---- sets of outputs

pub was_given-with_given : (given : Given) (output : Option MeshOutput) (other : MeshOutput) → was_given (with_given given output) other ≡ (is_output other output || was_given given other)
was_given-with_given given None VertexCount = refl
was_given-with_given given None PrimitiveCount = refl
was_given-with_given given None Vertices = refl
was_given-with_given given None Primitives = refl
was_given-with_given given (Some VertexCount) VertexCount = refl
was_given-with_given given (Some VertexCount) PrimitiveCount = refl
was_given-with_given given (Some VertexCount) Vertices = refl
was_given-with_given given (Some VertexCount) Primitives = refl
was_given-with_given given (Some PrimitiveCount) VertexCount = refl
was_given-with_given given (Some PrimitiveCount) PrimitiveCount = refl
was_given-with_given given (Some PrimitiveCount) Vertices = refl
was_given-with_given given (Some PrimitiveCount) Primitives = refl
was_given-with_given given (Some Vertices) VertexCount = refl
was_given-with_given given (Some Vertices) PrimitiveCount = refl
was_given-with_given given (Some Vertices) Vertices = refl
was_given-with_given given (Some Vertices) Primitives = refl
was_given-with_given given (Some Primitives) VertexCount = refl
was_given-with_given given (Some Primitives) PrimitiveCount = refl
was_given-with_given given (Some Primitives) Vertices = refl
was_given-with_given given (Some Primitives) Primitives = refl

-- the set contains exactly the outputs that these members contain
unfoldable pub WereGiven : Given → List StructMember → Type 0
WereGiven given members = (output : MeshOutput) → was_given given output ≡ list_any (gives output) members

none_given : Given
none_given = record { vertex_count = false; primitive_count = false; vertices = false; primitives = false }

was_given-none : (output : MeshOutput) → was_given none_given output ≡ false
unfolding none_given
was_given-none VertexCount = refl
was_given-none PrimitiveCount = refl
was_given-none Vertices = refl
was_given-none Primitives = refl

pub WereGiven-none : WereGiven (record { vertex_count = false; primitive_count = false; vertices = false; primitives = false }) []
unfolding WereGiven none_given
WereGiven-none = λ output. was_given-none output

was_given-push : (given : Given) (before : List StructMember) (member : StructMember) (output : MeshOutput) → was_given given output ≡ list_any (gives output) before → was_given (with_given given (output_of member)) output ≡ list_any (gives output) (before ++ member ∷ [])
was_given-push given before member output were =
    was_given-with_given given (output_of member) output ∙ ap (λ b. is_output output (output_of member) || b) were ∙ or_comm (gives output member) (list_any (gives output) before) ∙ sym (list_any-push (gives output) before member)

pub WereGiven-push : (given : Given) (before : List StructMember) (member : StructMember) → WereGiven given before → WereGiven (with_given given (output_of member)) (before ++ member ∷ [])
unfolding WereGiven
WereGiven-push given before member were = λ output. was_given-push given before member output (were output)

-- ---- the errors

module _ (types : List (NamedType × Span)) where
  errors_behind : List StructMember → StructMember → List EntryPointError
  errors_behind before member = errors_of (output_of member) (inner_of types member.ty) (λ output. list_any (gives output) before)

  errors-push : (before members : List StructMember) (member : StructMember) → errors types before (members ++ member ∷ []) ≡ errors types before members ++ errors_behind (before ++ members) member
  unfolding errors_behind
  errors-push before [] member =
      append-nil (errors_behind before member) ∙ ap (λ list. errors_behind list member) (sym (append-nil before))
  errors-push before (first ∷ members) member =
      ap (λ list. errors_behind before first ++ list) (errors-push (before ++ first ∷ []) members member ∙ ap (λ list. errors types (before ++ first ∷ []) members ++ errors_behind list member) (append_assoc before (first ∷ []) members)) ∙ sym (append_assoc (errors_behind before first) (errors types (before ++ first ∷ []) members) (errors_behind (before ++ first ∷ members) member))

  errors_of-extensional : (output : Option MeshOutput) (handle : ℕ) (f g : MeshOutput → Bool) → ((other : MeshOutput) → f other ≡ g other) → errors_of output (inner_of types handle) f ≡ errors_of output (inner_of types handle) g
  errors_of-extensional None handle f g same = refl
  errors_of-extensional (Some output) handle f g same =
      ap (λ was. errors_of (Some output) (inner_of types handle) (λ _. was)) (same output)

  errors-push_first : (before : List StructMember) (member : StructMember) (given : Given) → WereGiven given before → slice_get (errors types [] (before ++ member ∷ [])) 0 ≡ option_or (slice_get (errors types [] before) 0) (slice_get (errors_of (output_of member) (inner_of types member.ty) (was_given given)) 0)
  unfolding WereGiven errors_behind
  errors-push_first before member given were =
      ap (λ list. slice_get list 0) (errors-push [] before member) ∙ slice_get-append_first (errors types [] before) (errors_behind before member) ∙ ap (λ list. option_or (slice_get (errors types [] before) 0) (slice_get list 0)) (sym (errors_of-extensional (output_of member) member.ty (was_given given) (λ output. list_any (gives output) before) were))

  -- ---- the mesh

  -- a mesh with one more member, if the earlier members contain the outputs in `given`
  unfoldable pub with_member : Mesh → Given → StructMember → Mesh
  with_member mesh given member = record {
    topology = unwrap_or (topology_given types member) mesh.topology;
    vertices = unwrap_or (elements_given types Vertices member) mesh.vertices;
    primitives = unwrap_or (elements_given types Primitives member) mesh.primitives;
    error = option_or mesh.error (slice_get (errors_of (output_of member) (inner_of types member.ty) (was_given given)) 0);
  }

  last_read-push_default : {Y : Type 0} (read : StructMember → Option Y) (default : Y) (before : List StructMember) (member : StructMember) → unwrap_or (read member) (unwrap_or (last_read read before) default) ≡ unwrap_or (last_read read (before ++ member ∷ [])) default
  last_read-push_default read default before member =
      sym (unwrap_or-option_or (read member) (last_read read before) default) ∙ ap (λ found. unwrap_or found default) (sym (last_read-push read before member))

  pub with_member-mesh : (before : List StructMember) (member : StructMember) (given : Given) → WereGiven given before → with_member (mesh_of_members types before) given member ≡ mesh_of_members types (before ++ member ∷ [])
  unfolding with_member mesh_of_members
  with_member-mesh before member given were =
      let topology = last_read-push_default (topology_given types) Triangles before member in
      let vertices = last_read-push_default (elements_given types Vertices) no_elements before member in
      let primitives = last_read-push_default (elements_given types Primitives) no_elements before member in
      let error = sym (errors-push_first before member given were) in
      λ i. record { topology = topology i; vertices = vertices i; primitives = primitives i; error = error i }

-- the mesh before the first member
pub mesh_of_members-none : (types : List (NamedType × Span)) (vertices primitives : MeshElements) → vertices ≡ no_elements → primitives ≡ no_elements → (let mesh : Mesh = record { topology = Triangles; vertices = vertices; primitives = primitives; error = None } in mesh ≡ mesh_of_members types [])
unfolding mesh_of_members
mesh_of_members-none types vertices primitives vertices_are primitives_are =
    λ i. record { topology = Triangles; vertices = vertices_are i; primitives = primitives_are i; error = None }

-- an iteration of the loop over the members
module _ (types : List (NamedType × Span)) (members : List StructMember) (i : ℕ) (member : StructMember) (given : Given) (mesh : Mesh) where
  -- the values that an iteration computes from the member, and the state after it
  pub record IsTurn (output : Option MeshOutput) (later : Given) (next : Mesh) : Type 0 where
    pub output_is : output ≡ output_of member
    pub topology : next.topology ≡ unwrap_or (topology_given types member) mesh.topology
    pub vertices : next.vertices ≡ unwrap_or (elements_given types Vertices member) mesh.vertices
    pub primitives : next.primitives ≡ unwrap_or (elements_given types Primitives member) mesh.primitives
    pub error : next.error ≡ option_or mesh.error (slice_get (errors_of output (inner_of types member.ty) (was_given given)) 0)
    pub later_is : later ≡ with_given given output

  pub IsTurn-more : (output : Option MeshOutput) (later : Given) (next : Mesh) → IsTurn output later next → i < length members → member ≡ get_or members i member → mesh ≡ mesh_of_members types (take i members) → WereGiven given (take i members) → (next ≡ mesh_of_members types (take (i + 1) members)) × WereGiven later (take (i + 1) members)
  unfolding with_member
  IsTurn-more output later next turn within is mesh_is were =
      let before = take i members in
      let here : before ++ member ∷ [] ≡ take (i + 1) members = ap (λ m. before ++ m ∷ []) is ∙ sym (take_more members i member within) in
      let error : next.error ≡ option_or mesh.error (slice_get (errors_of (output_of member) (inner_of types member.ty) (was_given given)) 0) = turn.error ∙ ap (λ found. option_or mesh.error (slice_get (errors_of found (inner_of types member.ty) (was_given given)) 0)) turn.output_is in
      let told : next ≡ with_member types mesh given member = λ j. record { topology = turn.topology j; vertices = turn.vertices j; primitives = turn.primitives j; error = error j } in
      let mesh_now : with_member types mesh given member ≡ mesh_of_members types (before ++ member ∷ []) = ap (λ m. with_member types m given member) mesh_is ∙ with_member-mesh types before member given were in
      let later_now : later ≡ with_given given (output_of member) = turn.later_is ∙ ap (with_given given) turn.output_is in (
        told ∙ mesh_now ∙ ap (mesh_of_members types) here,
        subst (WereGiven later) here (subst (λ g. WereGiven g (before ++ member ∷ [])) (sym later_now) (WereGiven-push given before member were)),
      )

-- the types that an iteration looks up are in `types`
pub HasTypesFor-at : (types : List (NamedType × Span)) (members : List StructMember) (i : ℕ) (member : StructMember) (output : Option MeshOutput) → All (HasOutputTypes types) members → i < length members → member ≡ get_or members i member → output ≡ output_of member → HasTypesFor types output member.ty
HasTypesFor-at types members i member output known within is output_is =
    let here = subst (HasOutputTypes types) (sym is) (known i member within) in
    subst (λ found. HasTypesFor types found member.ty) (sym output_is) here
