-- The contents of a renamed type are of the same kinds, and what is read from them is the same.
use Rattle.std.proofs.Common.{◌≡◌, ◌∙◌, ap, refl, ℕ, zero, suc, Bool, List, [], ◌∷◌, length, map, Option, None, Some}
use Rattle.std.proofs.lemmas.List.{length-map}
use Rattle.std.specs.List.{AllByRecursion}
use Rattle.std.specs.Option.{option_and_then, option_map}
use Rattle.std.specs.Prelude.{◌-◌, ◌&&◌, ◌||◌, not, nat_eq, IfSome, is_some, slice_get}
use Rattle.naga_kinds.specs.Image.{is_depth}
use Rattle.naga_kinds.specs.declared.address_space.AddressSpace.{AddressSpace}
use Rattle.naga_ir.specs.declared.types.ArraySize.{ArraySize}
use Rattle.naga_ir.specs.declared.types.ArraySize.TheVariants as size
use Rattle.naga_ir.specs.declared.types.StructMember.{StructMember}
use Rattle.naga_ir.specs.declared.types.TypeInner.{TypeInner}
use Rattle.naga_ir.specs.declared.types.TypeInner.TheVariants as inner
use Rattle.naga_compact.specs.Renaming.{Renaming}
use Rattle.naga_compact.specs.derived.Renaming.{rename_array_size, rename_struct_member, rename_type_inner}
use Rattle.naga_compact.proofs.MappedListLemmas.{items-mapped}
use Rattle.naga_typifier.specs.Context.{Context}
use Rattle.naga_typing.specs.Composites.{has_components}
use Rattle.naga_typing.specs.Kinds.{can_be_gathered, can_be_sampled, class_passes, component, converts, has_bits_of, has_coordinates, has_one_of, is_dynamic_array, is_dynamic_size, is_sampler, single, unsigned_size}
use Rattle.naga_typing.specs.Renamed.{IsClosed, MentionsKept, RenamesContext, TypeIsKept}
use Rattle.naga_typing.specs.Requirements.{are_exchanged, atomic_behind, atomic_of, cooperative_columns, cooperative_rows, dimension_of, is_acceleration_structure, is_exchange_result, is_of, is_ray_payload, is_ray_query, is_sized_data, is_vertex_query, is_work_group, layers_of, member_contents, passes, points_into, points_to_data, points_to_dynamic_array, points_to_ray_query, points_to_vertex_query, scalar_in_cooperative, texel_scalar}
use Rattle.naga_typing.specs.declared.requirement.Kind.{Kind}
use Rattle.naga_typing.specs.declared.requirement.Kind.TheVariants as kind
use Rattle.naga_typing.specs.declared.requirement.Scalars.TheVariants.{Numbers, Booleans}
use Rattle.naga_typing.proofs.RenamedLemmas.{class_of-renamed, keeps, scalar_in-renamed, size_in-renamed}

pub is_some-mapped : {A B : Type 0} (f : A → B) (found : Option A) → is_some (option_map f found) ≡ is_some found
is_some-mapped f None = refl
is_some-mapped f (Some x) = refl

pub passes-mapped : (k : TypeInner → TypeInner) (test : TypeInner → Bool) → ((what : TypeInner) → test (k what) ≡ test what) → (found : Option TypeInner) → passes test (option_map k found) ≡ passes test found
passes-mapped k test same None = refl
passes-mapped k test same (Some what) = same what

module _ (r : Renaming) where
  -- ---- what is read

  single-renamed : (what : TypeInner) → single (rename_type_inner r what) ≡ single what
  single-renamed (inner.Scalar scalar) = refl
  single-renamed what = refl

  pub component-renamed : (what : TypeInner) → component (rename_type_inner r what) ≡ component what
  component-renamed (inner.Scalar scalar) = refl
  component-renamed (inner.Vector size scalar) = refl
  component-renamed what = refl

  pub unsigned_size-renamed : (what : TypeInner) → unsigned_size (rename_type_inner r what) ≡ unsigned_size what
  unsigned_size-renamed (inner.Scalar scalar) = refl
  unsigned_size-renamed (inner.Vector size scalar) = refl
  unsigned_size-renamed what = refl

  pub dimension_of-renamed : (what : TypeInner) → dimension_of (rename_type_inner r what) ≡ dimension_of what
  dimension_of-renamed (inner.Image dim arrayed class) = refl
  dimension_of-renamed what = refl

  pub layers_of-renamed : (what : TypeInner) → layers_of (rename_type_inner r what) ≡ layers_of what
  layers_of-renamed (inner.Image dim arrayed class) = refl
  layers_of-renamed what = refl

  pub texel_scalar-renamed : (what : TypeInner) → texel_scalar (rename_type_inner r what) ≡ texel_scalar what
  texel_scalar-renamed (inner.Image dim arrayed class) = refl
  texel_scalar-renamed what = refl

  pub scalar_in_cooperative-renamed : (what : TypeInner) → scalar_in_cooperative (rename_type_inner r what) ≡ scalar_in_cooperative what
  scalar_in_cooperative-renamed (inner.CooperativeMatrix columns rows scalar role) = refl
  scalar_in_cooperative-renamed what = refl

  pub cooperative_columns-renamed : (what : TypeInner) → cooperative_columns (rename_type_inner r what) ≡ cooperative_columns what
  cooperative_columns-renamed (inner.CooperativeMatrix columns rows scalar role) = refl
  cooperative_columns-renamed what = refl

  pub cooperative_rows-renamed : (what : TypeInner) → cooperative_rows (rename_type_inner r what) ≡ cooperative_rows what
  cooperative_rows-renamed (inner.CooperativeMatrix columns rows scalar role) = refl
  cooperative_rows-renamed what = refl

  atomic_of-renamed : (what : TypeInner) → atomic_of (rename_type_inner r what) ≡ atomic_of what
  atomic_of-renamed (inner.Atomic scalar) = refl
  atomic_of-renamed what = refl

  is_ray_query-renamed : (what : TypeInner) → is_ray_query (rename_type_inner r what) ≡ is_ray_query what
  is_ray_query-renamed (inner.RayQuery vertex_return) = refl
  is_ray_query-renamed what = refl

  is_vertex_query-renamed : (what : TypeInner) → is_vertex_query (rename_type_inner r what) ≡ is_vertex_query what
  is_vertex_query-renamed (inner.RayQuery vertex_return) = refl
  is_vertex_query-renamed what = refl

  is_acceleration_structure-renamed : (what : TypeInner) → is_acceleration_structure (rename_type_inner r what) ≡ is_acceleration_structure what
  is_acceleration_structure-renamed (inner.AccelerationStructure vertex_return) = refl
  is_acceleration_structure-renamed what = refl

  points_into-renamed : (test : AddressSpace → Bool) (what : TypeInner) → points_into test (rename_type_inner r what) ≡ points_into test what
  points_into-renamed test (inner.Pointer base space) = refl
  points_into-renamed test what = refl

  is_sampler-renamed : (wanted : Bool) (what : TypeInner) → is_sampler wanted (rename_type_inner r what) ≡ is_sampler wanted what
  is_sampler-renamed wanted (inner.Sampler comparison) = refl
  is_sampler-renamed wanted what = refl

  can_be_gathered-renamed : (position : ℕ) (what : TypeInner) → can_be_gathered position (rename_type_inner r what) ≡ can_be_gathered position what
  can_be_gathered-renamed position (inner.Image dim arrayed class) = refl
  can_be_gathered-renamed position what = refl

  is_dynamic_size-renamed : (number : ArraySize) → is_dynamic_size (rename_array_size r number) ≡ is_dynamic_size number
  is_dynamic_size-renamed (size.Pending override) = refl
  is_dynamic_size-renamed number = refl

  is_dynamic_array-renamed : (what : TypeInner) → is_dynamic_array (rename_type_inner r what) ≡ is_dynamic_array what
  is_dynamic_array-renamed (inner.Array base number stride) = is_dynamic_size-renamed number
  is_dynamic_array-renamed what = refl

  -- ---- kinds

  module _ (kept : ℕ → Bool) (ctx new : Context) (is : RenamesContext r kept ctx new) (closed : IsClosed kept ctx) where
    pub atomic_behind-renamed : (what : TypeInner) → MentionsKept kept what → atomic_behind new (rename_type_inner r what) ≡ atomic_behind ctx what
    atomic_behind-renamed (inner.Pointer base space) so =
        ap (option_and_then atomic_of) (is.types base so) ∙ keeps (rename_type_inner r) atomic_of atomic_of-renamed (ctx.types base)
    atomic_behind-renamed what so = refl

    points_to_ray_query-renamed : (what : TypeInner) → MentionsKept kept what → points_to_ray_query new (rename_type_inner r what) ≡ points_to_ray_query ctx what
    points_to_ray_query-renamed (inner.Pointer base space) so =
        ap (passes is_ray_query) (is.types base so) ∙ passes-mapped (rename_type_inner r) is_ray_query is_ray_query-renamed (ctx.types base)
    points_to_ray_query-renamed what so = refl

    points_to_vertex_query-renamed : (what : TypeInner) → MentionsKept kept what → points_to_vertex_query new (rename_type_inner r what) ≡ points_to_vertex_query ctx what
    points_to_vertex_query-renamed (inner.Pointer base space) so =
        ap (passes is_vertex_query) (is.types base so) ∙ passes-mapped (rename_type_inner r) is_vertex_query is_vertex_query-renamed (ctx.types base)
    points_to_vertex_query-renamed what so = refl

    points_to_dynamic_array-renamed : (what : TypeInner) → MentionsKept kept what → points_to_dynamic_array new (rename_type_inner r what) ≡ points_to_dynamic_array ctx what
    points_to_dynamic_array-renamed (inner.Pointer base space) so =
        ap (passes is_dynamic_array) (is.types base so) ∙ passes-mapped (rename_type_inner r) is_dynamic_array is_dynamic_array-renamed (ctx.types base)
    points_to_dynamic_array-renamed what so = refl

    member_contents-renamed : (position : ℕ) (members : List StructMember) → AllByRecursion (λ member. TypeIsKept kept member.ty) members → member_contents new (slice_get (map (rename_struct_member r) members) position) ≡ option_map (rename_type_inner r) (member_contents ctx (slice_get members position))
    member_contents-renamed zero [] so = refl
    member_contents-renamed (suc position) [] so = refl
    member_contents-renamed zero (member ∷ rest) so = is.types member.ty so.0
    member_contents-renamed (suc position) (member ∷ rest) so = member_contents-renamed position rest so.1

    is_sized_data-renamed : (what : TypeInner) → MentionsKept kept what → is_sized_data new (rename_type_inner r what) ≡ is_sized_data ctx what
    is_sized_data-renamed (inner.Array base number stride) so = ap not (is_dynamic_size-renamed number)
    is_sized_data-renamed (inner.Struct members span) so =
        let last = length members.items - 1 in
        ap (λ (items : List StructMember). not (passes is_dynamic_array (member_contents new (slice_get items (length items - 1))))) (items-mapped (rename_struct_member r) members)
        ∙ ap (λ (count : ℕ). not (passes is_dynamic_array (member_contents new (slice_get (map (rename_struct_member r) members.items) (count - 1)))))
        (length-map members.items (rename_struct_member r))
        ∙ ap (λ (found : Option TypeInner). not (passes is_dynamic_array found)) (member_contents-renamed last members.items so)
        ∙ ap not (passes-mapped (rename_type_inner r) is_dynamic_array is_dynamic_array-renamed (member_contents ctx (slice_get members.items last)))
    is_sized_data-renamed what so = refl

    points_to_data-renamed : (what : TypeInner) → MentionsKept kept what → points_to_data new (rename_type_inner r what) ≡ points_to_data ctx what
    points_to_data-renamed (inner.Pointer base space) so =
        ap (passes (is_sized_data new)) (is.types base so) ∙ data-renamed (ctx.types base) (closed base so)
      where
        data-renamed : (found : Option TypeInner) → IfSome found (MentionsKept kept) → passes (is_sized_data new) (option_map (rename_type_inner r) found) ≡ passes (is_sized_data ctx) found
        data-renamed None kept = refl
        data-renamed (Some behind) kept = is_sized_data-renamed behind kept
    points_to_data-renamed what so = refl

    are_exchanged-renamed : (members : List StructMember) → AllByRecursion (λ member. TypeIsKept kept member.ty) members → are_exchanged new (map (rename_struct_member r) members) ≡ are_exchanged ctx members
    are_exchanged-renamed members so = λ i.
        nat_eq (length-map members (rename_struct_member r) i) 2 && (has_one_of Numbers (scalar_at 0 i) && has_one_of Booleans (scalar_at 1 i))
      where
        scalar_at : (position : ℕ) → option_and_then single (member_contents new (slice_get (map (rename_struct_member r) members) position)) ≡ option_and_then single (member_contents ctx (slice_get members position))
        scalar_at position =
            ap (option_and_then single) (member_contents-renamed position members so) ∙ keeps (rename_type_inner r) single single-renamed (member_contents ctx (slice_get members position))

    is_exchange_result-renamed : (what : TypeInner) → MentionsKept kept what → is_exchange_result new (rename_type_inner r what) ≡ is_exchange_result ctx what
    is_exchange_result-renamed (inner.Struct members span) so =
        ap (are_exchanged new) (items-mapped (rename_struct_member r) members) ∙ are_exchanged-renamed members.items so
    is_exchange_result-renamed what so = refl

    is_of-renamed : (of : Kind) (what : TypeInner) → MentionsKept kept what → is_of new of (rename_type_inner r what) ≡ is_of ctx of what
    is_of-renamed kind.Pointer what so = points_to_data-renamed what so
    is_of-renamed kind.AtomicPointer what so = ap is_some (atomic_behind-renamed what so)
    is_of-renamed kind.WorkGroupPointer what so = points_into-renamed is_work_group what
    is_of-renamed kind.StorageImage what so = ap is_some (texel_scalar-renamed what)
    is_of-renamed kind.RayQueryPointer what so = points_to_ray_query-renamed what so
    is_of-renamed kind.AccelerationStructure what so = is_acceleration_structure-renamed what
    is_of-renamed kind.RayPayload what so = points_into-renamed is_ray_payload what
    is_of-renamed kind.CooperativeMatrix what so = ap is_some (scalar_in_cooperative-renamed what)
    is_of-renamed (kind.Single scalars) what so = ap (has_one_of scalars) (single-renamed what)
    is_of-renamed (kind.Components scalars) what so = ap (has_one_of scalars) (component-renamed what)
    is_of-renamed (kind.Entries scalars) what so = ap (has_one_of scalars) (scalar_in-renamed r what)
    is_of-renamed kind.SampledImage what so = ap (class_passes can_be_sampled) (class_of-renamed r what)
    is_of-renamed kind.DepthImage what so = ap (class_passes is_depth) (class_of-renamed r what)
    is_of-renamed (kind.Sampler comparison) what so = is_sampler-renamed comparison what
    is_of-renamed kind.DynamicArrayPointer what so = points_to_dynamic_array-renamed what so
    is_of-renamed (kind.VectorWith count) what so = ap (has_components count) (size_in-renamed r what)
    is_of-renamed kind.Data what so = is_sized_data-renamed what so
    is_of-renamed kind.ExchangeResult what so = is_exchange_result-renamed what so
    is_of-renamed (kind.Convertible to) what so = ap (converts to) (component-renamed what)
    is_of-renamed (kind.BitsOf to) what so = ap (has_bits_of to) (component-renamed what)
    is_of-renamed (kind.GatheredImage position) what so = can_be_gathered-renamed position what
    is_of-renamed kind.TexelImage what so = ap has_coordinates (dimension_of-renamed what)
    is_of-renamed kind.VertexQueryPointer what so = points_to_vertex_query-renamed what so
    is_of-renamed kind.Summand what so = λ i. has_one_of Numbers (scalar_in-renamed r what i) || is_some (scalar_in_cooperative-renamed what i)

    pub passes-renamed : (of : Kind) (found : Option TypeInner) → IfSome found (MentionsKept kept) → passes (is_of new of) (option_map (rename_type_inner r) found) ≡ passes (is_of ctx of) found
    passes-renamed of None so = refl
    passes-renamed of (Some what) so = is_of-renamed of what so
