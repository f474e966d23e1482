-- What statements, expressions and initial values require of the values that they use, and when it is met.
--
-- By the documentation of naga's IR, unless a row says otherwise: a store has the type behind its pointer, an atomic
-- operation has a value of the atomic's scalar, which is an integer unless it is added, subtracted or exchanged, a call
-- has the arguments that the function declares, a selector is an `i32` or a `u32`, as are its cases, and texels have
-- coordinates in images that are no cubes. As in WGSL, a coordinate and the index of a layer are `i32` or `u32`, and an
-- operation on a subgroup combines scalars or vectors of its kind. Choices: the indices of a subgroup and the stride of a
-- cooperative matrix are `u32`, atomics on images combine the scalars of others, all scalars and vectors can be gathered
-- from a subgroup, and atomics and ray queries are data, too.
use Rattle.std.specs.Prelude.{◌≡◌, ◌⊎◌, ⊤, ℕ, ◌+◌, ◌-◌, Bool, true, false, not, ◌&&◌, ◌||◌, List, Option, Some, None, is_some, length, nat_eq, nat_lt, slice_get}
use Rattle.std.specs.Option.{option_map}
use Rattle.naga_kinds.specs.Image.{is_depth}
use Rattle.naga_kinds.specs.Math.{argument_count_of}
use Rattle.naga_kinds.specs.Scalar.{scalar_of}
use Rattle.naga_kinds.specs.declared.address_space.AddressSpace.{AddressSpace}
use Rattle.naga_kinds.specs.declared.address_space.AddressSpace.TheVariants as space
use Rattle.naga_kinds.specs.declared.image.ImageClass.{ImageClass}
use Rattle.naga_kinds.specs.declared.image.ImageClass.TheVariants as class
use Rattle.naga_kinds.specs.declared.image.ImageDimension.{ImageDimension}
use Rattle.naga_kinds.specs.declared.image.ImageDimension.TheVariants.{D1, D2, D3, Cube}
use Rattle.naga_kinds.specs.declared.scalar.CooperativeSize.{CooperativeSize}
use Rattle.naga_kinds.specs.declared.scalar.PredeclaredType.TheVariants.{AtomicCompareExchangeWeakResult}
use Rattle.naga_kinds.specs.declared.scalar.Scalar.{Scalar}
use Rattle.naga_kinds.specs.declared.scalar.VectorSize.{VectorSize}
use Rattle.naga_kinds.specs.declared.scalar.VectorSize.TheVariants.{Bi, Tri, Quad}
use Rattle.naga_kinds.specs.declared.scalar.TheConstants.Scalar.{F16, F32, I32, U32}
use Rattle.naga_kinds.specs.declared.switch.SwitchValue.{SwitchValue}
use Rattle.naga_kinds.specs.declared.switch.SwitchValue.TheVariants as number
use Rattle.naga_ir.specs.declared.types.StructMember.{StructMember}
use Rattle.naga_ir.specs.declared.types.TypeInner.{TypeInner}
use Rattle.naga_ir.specs.declared.types.TypeInner.TheVariants as inner
use Rattle.naga_typifier.specs.Context.{Context}
use Rattle.naga_typifier.specs.Images.{class_of}
use Rattle.naga_typifier.specs.Math.{size_in}
use Rattle.naga_typifier.specs.Rows.{◌>>=◌, handle, loaded, part_of, scalar_behind, scalar_in, sized, value}
use Rattle.naga_typifier.specs.Table.{same, the}
use Rattle.naga_typifier.specs.declared.resolution.TypeResolution.{TypeResolution}
use Rattle.naga_typifier.specs.declared.resolution.TypeResolution.TheVariants as resolution
use Rattle.naga_typing.specs.Composites.{entries_of, has_components, is_filled_by, takes, vector_scalar}
use Rattle.naga_typing.specs.Forms.{form}
use Rattle.naga_typing.specs.Kinds.{can_be_gathered, can_be_sampled, class_passes, component, converts, has_bits_of, has_coordinates, has_levels, has_one_of, has_samples, is_dynamic_array, is_dynamic_size, is_sampler, single, unsigned_size}
use Rattle.naga_typing.specs.declared.requirement.Expected.{Expected}
use Rattle.naga_typing.specs.declared.requirement.Expected.TheVariants as expected
use Rattle.naga_typing.specs.declared.requirement.FirstComponents.{FirstComponents}
use Rattle.naga_typing.specs.declared.requirement.Kind.{Kind}
use Rattle.naga_typing.specs.declared.requirement.Kind.TheVariants as kind
use Rattle.naga_typing.specs.declared.requirement.Requirement.{Requirement}
use Rattle.naga_typing.specs.declared.requirement.Requirement.TheVariants as requirement
use Rattle.naga_typing.specs.declared.requirement.Scalars.TheVariants.{Numbers, Booleans}
use Rattle.naga_typing.specs.declared.requirement.Source.{Source}
use Rattle.naga_typing.specs.declared.requirement.Source.TheVariants as source

-- ---- images

-- the dimension of an image, or `None` for any other type
abbrev pub dimension_of : TypeInner → Option ImageDimension
dimension_of (inner.Image dim arrayed class) = Some dim
dimension_of _ = None

-- whether an image has array layers, or `None` for any other type
abbrev pub layers_of : TypeInner → Option Bool
layers_of (inner.Image dim arrayed class) = Some arrayed
layers_of _ = None

-- the size of a coordinate, or `None` if it is a scalar
abbrev pub coordinate_size : ImageDimension → Option VectorSize
coordinate_size D1 = None
coordinate_size D2 = Some Bi
coordinate_size D3 = Some Tri
coordinate_size Cube = Some Tri

-- whether each texel of an image has several samples, or `None` for any other type
abbrev pub samples_of : TypeInner → Option Bool
samples_of what = option_map has_samples (class_of what)

-- whether an image has mipmap levels, or `None` for any other type
abbrev pub levels_of : TypeInner → Option Bool
levels_of what = option_map has_levels (class_of what)

-- the scalar of the texels of a storage image
abbrev pub stored_scalar : ImageClass → Option Scalar
stored_scalar (class.Storage format access) = Some (scalar_of format)
stored_scalar _ = None

-- the scalar of the texels of a storage image, or `None` for any other type
abbrev pub texel_scalar : TypeInner → Option Scalar
texel_scalar (inner.Image dim arrayed class) = stored_scalar class
texel_scalar _ = None

-- ---- other types

-- the scalar of a cooperative matrix
abbrev pub scalar_in_cooperative : TypeInner → Option Scalar
scalar_in_cooperative (inner.CooperativeMatrix columns rows scalar role) = Some scalar
scalar_in_cooperative _ = None

-- the scalar of an atomic
abbrev pub atomic_of : TypeInner → Option Scalar
atomic_of (inner.Atomic scalar) = Some scalar
atomic_of _ = None

-- the number of columns of a cooperative matrix
abbrev pub cooperative_columns : TypeInner → Option CooperativeSize
cooperative_columns (inner.CooperativeMatrix columns rows scalar role) = Some columns
cooperative_columns _ = None

-- the number of rows of a cooperative matrix
abbrev pub cooperative_rows : TypeInner → Option CooperativeSize
cooperative_rows (inner.CooperativeMatrix columns rows scalar role) = Some rows
cooperative_rows _ = None

-- both sizes are present, and they are the same
abbrev pub SameSize : Option CooperativeSize → Option CooperativeSize → Type 0
SameSize first second = (size : CooperativeSize) × (first ≡ Some size) × (second ≡ Some size)

-- this is a ray query
abbrev pub is_ray_query : TypeInner → Bool
is_ray_query (inner.RayQuery vertex_return) = true
is_ray_query _ = false

-- this is a ray query that returns the vertices that are hit
abbrev pub is_vertex_query : TypeInner → Bool
is_vertex_query (inner.RayQuery vertex_return) = vertex_return
is_vertex_query _ = false

-- this is an acceleration structure
abbrev pub is_acceleration_structure : TypeInner → Bool
is_acceleration_structure (inner.AccelerationStructure vertex_return) = true
is_acceleration_structure _ = false

-- this is workgroup memory
abbrev pub is_work_group : AddressSpace → Bool
is_work_group space.WorkGroup = true
is_work_group _ = false

-- this is one of the spaces of ray payloads
abbrev pub is_ray_payload : AddressSpace → Bool
is_ray_payload space.RayPayload = true
is_ray_payload space.IncomingRayPayload = true
is_ray_payload _ = false

-- this is a pointer to a declared type in a space that passes the test
abbrev pub points_into : (AddressSpace → Bool) → TypeInner → Bool
points_into test (inner.Pointer base space) = test space
points_into test _ = false

-- the contents are present and pass the test
abbrev pub passes : (TypeInner → Bool) → Option TypeInner → Bool
passes test None = false
passes test (Some what) = test what

-- a type that need not be declared: a scalar, or a vector of this size
abbrev pub sized_type : Option VectorSize → Scalar → TypeResolution
sized_type size scalar = resolution.Value (sized size scalar)

-- the type of the value of a case, or `None` for the default
abbrev pub case_scalar : SwitchValue → Option Scalar
case_scalar (number.I32 value) = Some I32
case_scalar (number.U32 value) = Some U32
case_scalar number.Default = None

-- What the requirements of a body depend on, besides the types of its expressions: the types of the parameters of each
-- function, the type of its own result, and that of the description of a ray.
pub record Signature : Type 0 where
  pub parameters : ℕ → Option (List ℕ)
  pub result : Option ℕ
  pub ray_desc : Option ℕ

module _ (ctx : Context) where
  -- the contents of the type of a member that may be absent
  abbrev pub member_contents : Option StructMember → Option TypeInner
  member_contents None = None
  member_contents (Some member) = ctx.types member.ty

  -- Values of this type are data of a known size. An array or a structure consists of data by the rules for layouts, of
  -- which the last member alone can be an array of a dynamic size.
  abbrev pub is_sized_data : TypeInner → Bool
  is_sized_data (inner.Array base size stride) = not (is_dynamic_size size)
  is_sized_data (inner.Struct members span) =
      not (passes is_dynamic_array (member_contents (slice_get members.items (length members.items - 1))))
  is_sized_data (inner.Pointer base space) = false
  is_sized_data (inner.ValuePointer size scalar space) = false
  is_sized_data (inner.Image dim arrayed class) = false
  is_sized_data (inner.Sampler comparison) = false
  is_sized_data (inner.AccelerationStructure vertex_return) = false
  is_sized_data (inner.BindingArray base size) = false
  is_sized_data _ = true

  -- this is a pointer to data of a known size
  abbrev pub points_to_data : TypeInner → Bool
  points_to_data (inner.Pointer base space) = passes is_sized_data (ctx.types base)
  points_to_data (inner.ValuePointer size scalar space) = true
  points_to_data _ = false

  -- these members are the old value of an atomic, and whether it was exchanged
  abbrev pub are_exchanged : List StructMember → Bool
  are_exchanged members =
      nat_eq (length members) 2
      && (has_one_of Numbers (member_contents (slice_get members 0) >>= single)
      && has_one_of Booleans (member_contents (slice_get members 1) >>= single))

  -- this is the result of an exchange that compares
  abbrev pub is_exchange_result : TypeInner → Bool
  is_exchange_result (inner.Struct members span) = are_exchanged members.items
  is_exchange_result _ = false

  -- the scalar of the atomic behind a pointer
  abbrev pub atomic_behind : TypeInner → Option Scalar
  atomic_behind (inner.Pointer base space) = ctx.types base >>= atomic_of
  atomic_behind _ = None

  -- this is a pointer to a ray query
  abbrev pub points_to_ray_query : TypeInner → Bool
  points_to_ray_query (inner.Pointer base space) = passes is_ray_query (ctx.types base)
  points_to_ray_query _ = false

  -- this is a pointer to a ray query that returns the vertices that are hit
  abbrev pub points_to_vertex_query : TypeInner → Bool
  points_to_vertex_query (inner.Pointer base space) = passes is_vertex_query (ctx.types base)
  points_to_vertex_query _ = false

  -- this is a pointer to an array of a dynamic size
  abbrev pub points_to_dynamic_array : TypeInner → Bool
  points_to_dynamic_array (inner.Pointer base space) = passes is_dynamic_array (ctx.types base)
  points_to_dynamic_array _ = false

  -- the contents of a type are of this kind
  abbrev pub is_of : Kind → TypeInner → Bool
  is_of kind.Pointer what = points_to_data what
  is_of kind.AtomicPointer what = is_some (atomic_behind what)
  is_of kind.WorkGroupPointer what = points_into is_work_group what
  is_of kind.StorageImage what = is_some (texel_scalar what)
  is_of kind.RayQueryPointer what = points_to_ray_query what
  is_of kind.AccelerationStructure what = is_acceleration_structure what
  is_of kind.RayPayload what = points_into is_ray_payload what
  is_of kind.CooperativeMatrix what = is_some (scalar_in_cooperative what)
  is_of (kind.Single scalars) what = has_one_of scalars (single what)
  is_of (kind.Components scalars) what = has_one_of scalars (component what)
  is_of (kind.Entries scalars) what = has_one_of scalars (scalar_in what)
  is_of kind.SampledImage what = class_passes can_be_sampled (class_of what)
  is_of kind.DepthImage what = class_passes is_depth (class_of what)
  is_of (kind.Sampler comparison) what = is_sampler comparison what
  is_of kind.DynamicArrayPointer what = points_to_dynamic_array what
  is_of (kind.VectorWith count) what = has_components count (size_in what)
  is_of kind.Data what = is_sized_data what
  is_of kind.ExchangeResult what = is_exchange_result what
  is_of (kind.Convertible to) what = converts to (component what)
  is_of (kind.BitsOf to) what = has_bits_of to (component what)
  is_of (kind.GatheredImage position) what = can_be_gathered position what
  is_of kind.TexelImage what = has_coordinates (dimension_of what)
  is_of kind.VertexQueryPointer what = points_to_vertex_query what
  is_of kind.Summand what = has_one_of Numbers (scalar_in what) || is_some (scalar_in_cooperative what)

module _ (ctx : Context) (known : ℕ → Option TypeResolution) (signature : Signature) where
  -- the operand has this type
  abbrev pub Has : ℕ → TypeResolution → Type 0
  Has operand ty = option_map (form ctx.types) (known operand) ≡ Some (form ctx.types ty)

  -- the operand is a scalar, or a vector of this size, of `i32` or `u32`
  abbrev pub IsIndex : Option VectorSize → ℕ → Type 0
  IsIndex size operand = Has operand (sized_type size I32) ⊎ Has operand (sized_type size U32)

  -- the scalar of the atomic to which an operand points
  abbrev pub atomic_at : ℕ → Option Scalar
  atomic_at pointer = the ctx known pointer >>= atomic_behind ctx

  -- the scalar of the texels of an operand
  abbrev pub texel_at : ℕ → Option Scalar
  texel_at image = the ctx known image >>= texel_scalar

  -- the result of an exchange that compares scalars
  abbrev pub exchange_result : Scalar → Option ℕ
  exchange_result scalar = ctx.predeclared (AtomicCompareExchangeWeakResult scalar)

  -- the type that comes from a source, if there is one
  abbrev pub wanted : Source → Option TypeResolution
  wanted (source.Scalar scalar) = value (inner.Scalar scalar)
  wanted (source.Case value) = option_map (sized_type None) (case_scalar value)
  wanted (source.Same expression) = same ctx known expression
  wanted (source.Loaded pointer) = the ctx known pointer >>= loaded ctx
  wanted (source.AtomicScalar pointer) = option_map (sized_type None) (atomic_at pointer)
  wanted (source.ExchangeResult pointer) = option_map handle (atomic_at pointer >>= exchange_result)
  wanted (source.Texel image) = option_map (sized_type (Some Quad)) (texel_at image)
  wanted (source.Component image) = option_map (sized_type None) (texel_at image)
  wanted (source.Argument function position) =
      option_map handle (signature.parameters function >>= λ types. slice_get types position)
  wanted source.RayDescription = option_map handle signature.ray_desc
  wanted source.FunctionResult = option_map handle signature.result
  wanted (source.Declared ty) = Some (handle ty)
  wanted (source.Entry expression) = option_map (sized_type None) (the ctx known expression >>= scalar_in)
  wanted (source.Along expression scalar) =
      option_map (λ what. sized_type (size_in what) scalar) (the ctx known expression)
  wanted (source.Position image scalar) =
      option_map (λ dim. sized_type (coordinate_size dim) scalar) (the ctx known image >>= dimension_of)

  -- the operand has the type that comes from a source
  abbrev pub HasFrom : ℕ → Source → Type 0
  HasFrom operand source = (ty : TypeResolution) × (wanted source ≡ Some ty) × Has operand ty

  -- the operand is a level of an image that has depths, or of another one
  abbrev pub IsLevel : (of_depths : Bool) → ℕ → Type 0
  IsLevel true operand = IsIndex None operand
  IsLevel false operand = Has operand (sized_type None F32) ⊎ Has operand (sized_type None F16)

  -- The operand can be the component at a position of a value with these contents. If they are a vector of this scalar,
  -- it is the scalar or a vector of it, and otherwise it has the type of what an access at the position has.
  abbrev pub IsPart : (of : Option Scalar) → TypeInner → (position : ℕ) → ℕ → Type 0
  IsPart (Some scalar) what position operand = (the ctx known operand >>= component) ≡ Some scalar
  IsPart None what position operand =
      (ty : TypeResolution) × (part_of (Some position) what ≡ Some ty) × Has operand ty

  -- the number of scalars of an operand that may be absent
  abbrev pub entries_at : Option ℕ → ℕ
  entries_at operand = entries_of (operand >>= the ctx known)

  -- the number of scalars of the first components of a composite value
  abbrev pub first_entries : FirstComponents → ℕ
  first_entries of = entries_at of.first + entries_at of.second + entries_at of.third + entries_at of.fourth

  -- the numbers of columns and of rows of a cooperative matrix
  abbrev pub columns_at : ℕ → Option CooperativeSize
  columns_at operand = the ctx known operand >>= cooperative_columns

  abbrev pub rows_at : ℕ → Option CooperativeSize
  rows_at operand = the ctx known operand >>= cooperative_rows

  -- the cooperative matrices `a` and `b` have a product, which has the size of `c`
  abbrev pub HaveProduct : (a b c : ℕ) → Type 0
  HaveProduct a b c =
      SameSize (columns_at a) (rows_at b) × SameSize (rows_at a) (rows_at c) × SameSize (columns_at b) (columns_at c)

  -- the operand is what is expected
  abbrev pub IsExpected : ℕ → Expected → Type 0
  IsExpected operand (expected.Kind kind) = passes (is_of ctx kind) (the ctx known operand) ≡ true
  IsExpected operand (expected.Type source) = (ty : TypeResolution) × (wanted source ≡ Some ty) × Has operand ty
  IsExpected operand expected.Integer = IsIndex None operand
  IsExpected operand (expected.Coordinate image) =
      (dim : ImageDimension) × ((the ctx known image >>= dimension_of) ≡ Some dim) × IsIndex (coordinate_size dim) operand
  IsExpected operand (expected.CooperativeData target) =
      (scalar : Scalar) × ((the ctx known target >>= scalar_in_cooperative) ≡ Some scalar)
      × ((the ctx known operand >>= scalar_behind ctx) ≡ Some scalar)
  IsExpected operand (expected.Either first second) = HasFrom operand first ⊎ HasFrom operand second
  IsExpected operand (expected.SameScalar other) =
      (scalar : Scalar) × ((the ctx known other >>= scalar_in) ≡ Some scalar)
      × ((the ctx known operand >>= scalar_in) ≡ Some scalar)
  IsExpected operand (expected.Shift left) =
      (what : TypeInner) × (the ctx known left ≡ Some what) × ((the ctx known operand >>= unsigned_size) ≡ Some (size_in what))
  IsExpected operand (expected.Level image) =
      (class : ImageClass) × ((the ctx known image >>= class_of) ≡ Some class) × IsLevel (is_depth class) operand
  IsExpected operand (expected.Component ty position) =
      (what : TypeInner) × (ctx.types ty ≡ Some what) × IsPart (vector_scalar what) what position operand

  -- the requirement is met
  abbrev pub IsMet : Requirement → Type 0
  IsMet (requirement.Operand operand expected) = IsExpected operand expected
  IsMet (requirement.Layers image has_index) = (the ctx known image >>= layers_of) ≡ Some has_index
  IsMet (requirement.ArgumentCount function count) = option_map length (signature.parameters function) ≡ Some count
  IsMet (requirement.CallResult function has_result) = option_map is_some (ctx.results function) ≡ Some has_result
  IsMet requirement.NoResult = signature.result ≡ None
  IsMet (requirement.Samples image has_index) = (the ctx known image >>= samples_of) ≡ Some has_index
  IsMet (requirement.Levels image has_level) = (the ctx known image >>= levels_of) ≡ Some has_level
  IsMet (requirement.MathArgument fun position is_given) = nat_lt position (argument_count_of fun) ≡ is_given
  IsMet (requirement.ComponentCount ty count) = passes (takes count) (ctx.types ty) ≡ true
  IsMet (requirement.VectorEntries ty of) = passes (is_filled_by (first_entries of)) (ctx.types ty) ≡ true
  IsMet (requirement.Contents ty kind) = passes (is_of ctx kind) (ctx.types ty) ≡ true
  IsMet (requirement.Product a b c) = HaveProduct a b c

  -- a requirement that is present is met
  abbrev pub Fits : Option Requirement → Type 0
  Fits None = ⊤
  Fits (Some required) = IsMet required
