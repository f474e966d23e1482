-- Global variables whose types, and the types of their members, are within limits.
use Rattle.std.proofs.Common.{◌≡◌, refl, subst, sym, ℕ, ◌<◌, ◌≤◌, List, [], ◌∷◌, ◌++◌, length, map, Option, Some, None, arith}
use Rattle.std.specs.Prelude.{All, Contains, IfSome, option_to_list, slice_get}
use Rattle.std.specs.Option.{ForSome, option_map}
use Rattle.std.proofs.lemmas.List.Elements.{All-nil, All-cons, All-contains, All-head, All-tail, All-weaker, Contains-append_left, Contains-append_right}
use Rattle.naga_arena.specs.Arena.{value_at, values}
use Rattle.naga_arena.specs.declared.span.Span.{Span}
use Rattle.naga_ir.specs.MeshOutput.{HasMeshHandles, HasOutputTypes, elements_of, inner_of, members_of}
use Rattle.naga_ir.specs.declared.module.EntryPoint as entry_point
use Rattle.naga_ir.specs.declared.module.GlobalVariable as global
use Rattle.naga_ir.specs.declared.module.MeshStageInfo.{MeshStageInfo}
use Rattle.naga_ir.specs.declared.module.Module as the_module
use Rattle.naga_ir.specs.declared.types.ArraySize.TheVariants as size
use Rattle.naga_ir.specs.declared.types.StructMember.{StructMember}
use Rattle.naga_ir.specs.declared.types.«Type».{«Type» as NamedType}
use Rattle.naga_ir.specs.declared.types.TypeInner.{TypeInner}
use Rattle.naga_ir.specs.declared.types.TypeInner.TheVariants.{Array, Struct}
use Rattle.naga_valid.specs.Declarations.{references_of_global_variable, references_of_inner, references_of_mesh_info, references_of_type}
use Rattle.naga_valid.specs.Limits.{AreWithin, IsWithin}
use Rattle.naga_valid.specs.Places.{global_overrides, lengths, references_found, references_of_entry_point}
use Rattle.naga_valid.proofs.EachIsWithinLemmas.{EachIsWithin}
use Rattle.naga_valid.specs.Valid.{HandlesAreValid}
use Rattle.naga_valid.specs.declared.limits.Limits.{Limits}
use Rattle.naga_valid.specs.declared.reference.Reference.{Reference}
use Rattle.naga_valid.specs.declared.reference.Reference.TheVariants as reference
use Rattle.naga_valid.proofs.EachIsWithinLemmas.{EachIsWithin-at}
use Rattle.naga_valid.proofs.HandlesAreValidLemmas.{HandlesAreValid-entry_points, HandlesAreValid-global_variables, HandlesAreValid-types}
use Rattle.naga_valid.proofs.IsWithinLemmas.{IsWithin-first}

IfSome-from : {X : Type 0} (o : Option X) (P : X → Type 0) → ((x : X) → o ≡ Some x → P x) → IfSome o P
IfSome-from None P step = tt
IfSome-from (Some x) P step = step x refl

-- ---- one type

module _ (limits : Limits) where
  members-within : (members : List StructMember) → AreWithin limits (map (λ member. reference.«Type» member.ty) members) → All (λ member. member.ty < limits.types) members
  members-within [] all = All-nil (λ member. member.ty < limits.types)
  members-within (member ∷ members) all =
      let rest = map (λ m. reference.«Type» m.ty) members in
      All-cons (λ m. m.ty < limits.types) member members (All-head (IsWithin limits) (reference.«Type» member.ty) rest all)
      (members-within members (All-tail (IsWithin limits) (reference.«Type» member.ty) rest all))

  members_of-within : (inner : Option TypeInner) → AreWithin limits (references_found references_of_inner inner) → All (λ member. member.ty < limits.types) (members_of inner)
  unfolding members_of
  members_of-within (Some (Struct members span)) all = members-within members.items all
  members_of-within _ all = All-nil (λ member. member.ty < limits.types)

  base-within : (base : ℕ) (rest : List Reference) → AreWithin limits (reference.«Type» base ∷ rest) → (n : ℕ) → limits.types ≤ n → base < n
  base-within base rest all n below =
      let first : base < limits.types = IsWithin-first limits (reference.«Type» base) rest all in
      omega (arith, first, below)

  -- the type of the elements is the base of the array, or the first type
  elements_of-within : (inner : Option TypeInner) → AreWithin limits (references_found references_of_inner inner) → (n : ℕ) → limits.types ≤ n → 0 < n → (elements_of inner).ty < n
  unfolding elements_of
  elements_of-within (Some (Array base (size.Constant count) stride)) all n below some = base-within base [] all n below
  elements_of-within (Some (Array base (size.Pending handle) stride)) all n below some = base-within base (reference.Override handle ∷ []) all n below
  elements_of-within (Some (Array base size.Dynamic stride)) all n below some = base-within base [] all n below
  elements_of-within _ all n below some = some

-- ---- all types

module _ (types : List (NamedType × Span)) (limits : ℕ → Limits) (each : EachIsWithin references_of_type limits (values types)) (is : (index : ℕ) → (limits index).types ≡ index) where
  inner-within : (ty : ℕ) → AreWithin (limits ty) (references_found references_of_inner (inner_of types ty))
  inner-within ty = by_type (value_at types ty) (each ty)
    where
      by_type : (o : Option NamedType) → AreWithin (limits ty) (references_found references_of_type o) → AreWithin (limits ty) (references_found references_of_inner (option_map (λ type. type.inner) o))
      by_type None all = all
      by_type (Some type) all = all

  -- whichever output the member contains
  HasOutputTypes-member : (member : StructMember) → member.ty < length types → HasOutputTypes types member
  HasOutputTypes-member member within =
      let ty = member.ty in
      let below : (limits ty).types ≤ length types = omega (arith, is ty, within) in
      let some : 0 < length types = omega (arith, within) in
      let elements : (elements_of (inner_of types ty)).ty < length types = elements_of-within (limits ty) (inner_of types ty) (inner-within ty) (length types) below some in
      grind (arith, within, elements)

  HasOutputTypes-within : (ty : ℕ) → ty < length types → All (HasOutputTypes types) (members_of (inner_of types ty))
  HasOutputTypes-within ty within =
      All-weaker (λ member. member.ty < (limits ty).types) (HasOutputTypes types) (λ member below.
      let inside : member.ty < length types = omega (arith, below, is ty, within) in
      HasOutputTypes-member member inside) (members_of (inner_of types ty))
      (members_of-within (limits ty) (inner_of types ty) (inner-within ty))

-- ---- entry points

output-contained : (info : MeshStageInfo) → Contains (references_of_mesh_info info) (reference.GlobalVariable info.output_variable)
output-contained info =
    Contains-append_right (option_to_list (option_map reference.GlobalExpression info.max_vertices_override) ++ option_to_list (option_map reference.GlobalExpression info.max_primitives_override))
    (reference.«Type» info.vertex_output_type ∷ reference.«Type» info.primitive_output_type ∷ reference.GlobalVariable info.output_variable ∷ [])
    (reference.GlobalVariable info.output_variable) (2, omega arith, refl)

output-of_entry : (entry : entry_point.EntryPoint) (info : MeshStageInfo) → entry.mesh_info ≡ Some info → Contains (references_of_entry_point entry) (reference.GlobalVariable info.output_variable)
output-of_entry entry info is =
    let output = reference.GlobalVariable info.output_variable in
    let payloads = option_to_list (option_map reference.GlobalVariable entry.task_payload) ++ option_to_list (option_map reference.GlobalVariable entry.incoming_ray_payload) in
    let mesh = references_found references_of_mesh_info entry.mesh_info in
    let inside = subst (λ o. Contains (references_found references_of_mesh_info o) output) (sym is) (output-contained info) in
    Contains-append_right (references_found global_overrides entry.workgroup_size_overrides) (mesh ++ payloads) output
    (Contains-append_left mesh payloads output inside)

-- ---- the variables of a valid module

module _ (whole : the_module.Module) (valid : HandlesAreValid whole) where
  type-within : (handle : ℕ) (variable : global.GlobalVariable) → value_at whole.global_variables handle ≡ Some variable → variable.ty < length whole.types
  type-within handle variable found =
      IsWithin-first (lengths whole) (reference.«Type» variable.ty) (option_to_list (option_map reference.GlobalExpression variable.init))
      (EachIsWithin-at references_of_global_variable (λ _. lengths whole) (values whole.global_variables) (HandlesAreValid-global_variables whole valid) handle variable found)

  pub HasMeshHandles-within : (handle : ℕ) → handle < length whole.global_variables → HasMeshHandles whole handle
  HasMeshHandles-within handle within = record {
    variable = within;
    ty = IfSome-from (value_at whole.global_variables handle) (λ variable. variable.ty < length whole.types) (type-within handle);
    members = IfSome-from (value_at whole.global_variables handle) (λ variable. All (HasOutputTypes whole.types) (members_of (inner_of whole.types variable.ty))) (λ variable found.
        HasOutputTypes-within whole.types (λ index. record (lengths whole) { types = index }) (HandlesAreValid-types whole valid) (λ _. refl) variable.ty (type-within handle variable found));
  }

  pub HasMeshHandles-entry_point : (position : ℕ) (entry : entry_point.EntryPoint) → slice_get whole.entry_points.items position ≡ Some entry → ForSome entry.mesh_info (λ info. HasMeshHandles whole info.output_variable)
  HasMeshHandles-entry_point position entry found = λ info is.
      let all = EachIsWithin-at references_of_entry_point (λ _. lengths whole) whole.entry_points.items (HandlesAreValid-entry_points whole valid) position entry found in
      HasMeshHandles-within info.output_variable
      (All-contains (IsWithin (lengths whole)) (references_of_entry_point entry) (reference.GlobalVariable info.output_variable) all (output-of_entry entry info is))
