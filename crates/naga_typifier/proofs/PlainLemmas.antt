-- Each type that an expression has is copied as it is.
use Rattle.std.proofs.Common.{◌≡◌, ℕ, Option, Some, None, Bool, true, false, List, if◌then◌else◌, refl}
use Rattle.std.specs.List.{slice_get}
use Rattle.std.specs.Option.{option_map, option_and_then}
use Rattle.naga_kinds.specs.declared.address_space.AddressSpace.{AddressSpace}
use Rattle.naga_kinds.specs.declared.address_space.AddressSpace.TheVariants as space
use Rattle.naga_kinds.specs.declared.image.ImageClass.{ImageClass}
use Rattle.naga_kinds.specs.declared.image.ImageClass.TheVariants as class
use Rattle.naga_kinds.specs.declared.image.ImageDimension.{ImageDimension}
use Rattle.naga_kinds.specs.declared.image.ImageDimension.TheVariants.{D1, D3}
use Rattle.naga_kinds.specs.declared.operator.SwizzleComponent.{SwizzleComponent}
use Rattle.naga_kinds.specs.declared.scalar.PredeclaredType.TheVariants.{ModfResult, FrexpResult}
use Rattle.naga_kinds.specs.declared.scalar.Scalar.{Scalar}
use Rattle.naga_kinds.specs.declared.scalar.VectorSize.{VectorSize}
use Rattle.naga_kinds.specs.declared.scalar.TheConstants.Scalar.{BOOL}
use Rattle.naga_ir.specs.declared.types.StructMember.{StructMember}
use Rattle.naga_ir.specs.declared.types.TypeInner.{TypeInner}
use Rattle.naga_ir.specs.declared.types.TypeInner.TheVariants as inner
use Rattle.naga_typifier.specs.Context.{Context, inner_of}
use Rattle.naga_typifier.specs.Images.{class_of, extent, sample, size_of, texel}
use Rattle.naga_typifier.specs.Math.{accepted, applied, given, outer, rule_of, size_in, transposed}
use Rattle.naga_typifier.specs.Plain.{Stays, TypesStay}
use Rattle.naga_typifier.specs.Rows.{accessed, cast, copied, handle, is_within, loaded, mapped, matrix_product, part_of, pointee, pointer_to, product, same_size, scalar_behind, sized, splatted, swizzled, value, when}
use Rattle.naga_typifier.specs.Rules.{rule_of_expression}
use Rattle.naga_typifier.specs.Table.{cooperative, optional, pointed, product_of, read_from, the, type_by, type_of_named, variable}
use Rattle.naga_typifier.specs.declared.math.MathResult.{MathResult}
use Rattle.naga_typifier.specs.declared.math.MathResult.TheVariants as gives
use Rattle.naga_typifier.specs.declared.math.MathRule.{MathRule}
use Rattle.naga_typifier.specs.declared.resolution.TypeResolution.{TypeResolution}
use Rattle.naga_typifier.specs.declared.resolution.TypeResolution.TheVariants as resolution
use Rattle.naga_typifier.specs.declared.rules.Named.{Named}
use Rattle.naga_typifier.specs.declared.rules.Named.TheVariants as named
use Rattle.naga_typifier.specs.declared.rules.Reading.{Reading}
use Rattle.naga_typifier.specs.declared.rules.Reading.TheVariants as reading
use Rattle.naga_typifier.specs.declared.rules.Rule.{Rule}
use Rattle.naga_typifier.specs.declared.rules.Rule.TheVariants as rule

-- a step whose results stay
step : {A : Type 0} (f : A → Option TypeResolution) → ((x : A) → Stays (f x)) → (found : Option A)
    → Stays (option_and_then f found)
step f stays None = tt
step f stays (Some x) = stays x

each : {A : Type 0} (f : A → TypeResolution) → ((x : A) → copied (f x) ≡ Some (f x)) → (found : Option A)
    → Stays (option_map f found)
each f stays None = tt
each f stays (Some x) = stays x

handles : (found : Option ℕ) → Stays (option_map handle found)
handles = each handle (λ ty. refl)

copies : (ty : TypeResolution) → Stays (copied ty)
copies (resolution.Handle ty) = refl
copies (resolution.Value (inner.Scalar scalar)) = refl
copies (resolution.Value (inner.Vector size scalar)) = refl
copies (resolution.Value (inner.Matrix columns rows scalar)) = refl
copies (resolution.Value (inner.CooperativeMatrix columns rows scalar role)) = refl
copies (resolution.Value (inner.Pointer base space)) = refl
copies (resolution.Value (inner.ValuePointer size scalar space)) = refl
copies (resolution.Value contents) = tt

whens : (holds : Bool) (contents : TypeInner) → copied (resolution.Value contents) ≡ value contents
    → Stays (when holds contents)
whens true contents stays = stays
whens false contents stays = tt

members : (list : List StructMember) (index : ℕ)
    → Stays (option_map (λ (member : StructMember). handle member.ty) (slice_get list index))
members list index = each (λ (member : StructMember). handle member.ty) (λ member. refl) (slice_get list index)

parts : (index : Option ℕ) (contents : TypeInner) → Stays (part_of index contents)
parts index (inner.Vector size scalar) = whens (is_within index size) (inner.Scalar scalar) refl
parts index (inner.Matrix columns rows scalar) = whens (is_within index columns) (inner.Vector rows scalar) refl
parts index (inner.Array base size stride) = refl
parts index (inner.BindingArray base size) = refl
parts (Some index) (inner.Struct list span) = members list.items index
parts None (inner.Struct list span) = tt
parts None contents = tt
parts (Some index) contents = tt

pointers : (space : AddressSpace) (part : TypeResolution) → Stays (pointer_to space part)
pointers space (resolution.Handle base) = refl
pointers space (resolution.Value (inner.Scalar scalar)) = refl
pointers space (resolution.Value (inner.Vector size scalar)) = refl
pointers space (resolution.Value contents) = tt

accesses : (ctx : Context) (index : Option ℕ) (contents : TypeInner) → Stays (accessed ctx index contents)
accesses ctx index (inner.Pointer base space) =
    step (pointer_to space) (pointers space) (option_and_then (part_of index) (ctx.types base))
accesses ctx index (inner.ValuePointer (Some size) scalar space) =
    step (pointer_to space) (pointers space) (part_of index (inner.Vector size scalar))
accesses ctx index (inner.ValuePointer None scalar space) = parts index (inner.ValuePointer None scalar space)
accesses ctx index contents = parts index contents

pointees : (base : ℕ) (contents : TypeInner) → copied (pointee base contents) ≡ Some (pointee base contents)
pointees base (inner.Atomic scalar) = refl
pointees base contents = refl

sizes : (size : Option VectorSize) (scalar : Scalar) → Stays (value (sized size scalar))
sizes None scalar = refl
sizes (Some size) scalar = refl

loads : (ctx : Context) (contents : TypeInner) → Stays (loaded ctx contents)
loads ctx (inner.Pointer base space) = each (pointee base) (pointees base) (ctx.types base)
loads ctx (inner.ValuePointer size scalar space) = sizes size scalar
loads ctx contents = tt

maps : (f : Scalar → Scalar) (contents : TypeInner) → Stays (mapped f contents)
maps f (inner.Scalar scalar) = refl
maps f (inner.Vector size scalar) = refl
maps f contents = tt

splats : (size : VectorSize) (contents : TypeInner) → Stays (splatted size contents)
splats size (inner.Scalar scalar) = refl
splats size contents = tt

swizzles : (size : VectorSize) (contents : TypeInner) → Stays (swizzled size contents)
swizzles size (inner.Vector from scalar) = refl
swizzles size contents = tt

texels : (class : ImageClass) → Stays (value (texel class))
texels (class.Depth multi) = refl
texels (class.Sampled kind multi) = refl
texels (class.Storage format access) = refl
texels class.External = refl

samples : (gather : Option SwizzleComponent) (class : ImageClass) → Stays (sample gather class)
samples (Some component) (class.Sampled kind multi) = refl
samples (Some component) (class.Depth multi) = refl
samples (Some component) class = tt
samples None (class.Sampled kind multi) = refl
samples None (class.Depth multi) = refl
samples None class.External = refl
samples None class = tt

extents : (dim : ImageDimension) → Stays (value (extent dim))
extents D1 = refl
extents D3 = refl
extents dim = refl

image_sizes : (contents : TypeInner) → Stays (size_of contents)
image_sizes (inner.Image dim arrayed class) = extents dim
image_sizes contents = tt

chosen : (holds : Bool) (ty : TypeResolution) → Stays (if holds then copied ty else None)
chosen true ty = copies ty
chosen false ty = tt

matrix_products : (a b : TypeInner) → Stays (matrix_product a b)
matrix_products (inner.Vector size also) (inner.Matrix columns rows scalar) =
    whens (same_size rows size) (inner.Vector columns scalar) refl
matrix_products (inner.Matrix columns rows scalar) (inner.Vector size also) =
    whens (same_size columns size) (inner.Vector rows scalar) refl
matrix_products (inner.Matrix columns rows scalar) (inner.Matrix others inside also) =
    whens (same_size columns inside) (inner.Matrix others rows scalar) refl
matrix_products a b = tt

products : (left right : TypeResolution) (a b : TypeInner) → Stays (product left right a b)
products left right (inner.Scalar scalar) (inner.Scalar also) = copies left
products left right (inner.Vector size scalar) (inner.Scalar also) = copies left
products left right (inner.Matrix columns rows scalar) (inner.Scalar also) = copies left
products left right (inner.Scalar scalar) (inner.Vector size also) = copies right
products left right (inner.Scalar scalar) (inner.Matrix columns rows also) = copies right
products left right (inner.Vector size scalar) (inner.Vector again also) = chosen (same_size size again) left
products left right a b = matrix_products a b

transposes : (contents : TypeInner) → Stays (transposed contents)
transposes (inner.Matrix columns rows scalar) = refl
transposes contents = tt

outers : (a b : TypeInner) → Stays (outer a b)
outers (inner.Vector columns scalar) (inner.Vector rows also) = refl
outers (inner.Vector columns scalar) b = tt
outers a b = tt

module _ (ctx : Context) where
  gifts : (argument : TypeResolution) (contents : TypeInner) (second : Option TypeInner) (of : MathResult)
      (scalar : Scalar)
      → Stays (given ctx argument contents second scalar of)
  gifts argument contents second gives.Argument scalar = copies argument
  gifts argument contents second gives.Component scalar = refl
  gifts argument contents second gives.Transposed scalar = transposes contents
  gifts argument contents second gives.Outer scalar = step (outer contents) (outers contents) second
  gifts argument contents second gives.Modf scalar = handles (ctx.predeclared (ModfResult (size_in contents) scalar))
  gifts argument contents second gives.Frexp scalar =
      handles (ctx.predeclared (FrexpResult (size_in contents) scalar))
  gifts argument contents second (gives.Fixed size of) scalar = sizes size of

  applications : (rule : MathRule) (argument : TypeResolution) (second : Option TypeInner) (contents : TypeInner)
      → Stays (applied ctx rule argument contents second)
  applications rule argument second contents =
      step (λ scalar. given ctx argument contents second scalar rule.gives)
      (gifts argument contents second rule.gives) (accepted rule contents)

  module _ (known : ℕ → Option TypeResolution) where
    all_products : (left right : ℕ) → Stays (product_of ctx known left right)
    all_products left right =
        step (λ a. option_and_then (λ (b : TypeResolution).
        option_and_then (λ (c : TypeInner). option_and_then (product a b c) (inner_of ctx b)) (inner_of ctx a))
        (known right))
        (λ a. step (λ b.
        option_and_then (λ (c : TypeInner). option_and_then (product a b c) (inner_of ctx b)) (inner_of ctx a))
        (λ b. step (λ c. option_and_then (product a b c) (inner_of ctx b))
        (λ c. step (product a b c) (products a b c) (inner_of ctx b)) (inner_of ctx a))
        (known right))
        (known left)

variables : (space : AddressSpace) (ty : ℕ) → copied (pointed space ty) ≡ Some (pointed space ty)
variables space.Handle ty = refl
variables space ty = refl

named_types : (ctx : Context) (what : Named) → Stays (type_of_named ctx what)
named_types ctx (named.GlobalVariable global) =
    each variable (λ found. variables found.0 found.1) (ctx.globals global)
named_types ctx (named.LocalVariable local) = each (pointed space.Function) (variables space.Function) (ctx.locals local)
named_types ctx (named.Constant constant) = handles (ctx.constants constant)
named_types ctx (named.Override override) = handles (ctx.overrides override)
named_types ctx (named.Argument index) = handles (ctx.arguments index)
named_types ctx (named.Result function) = handles (option_and_then (λ result. result) (ctx.results function))
named_types ctx named.RayVertexReturn = handles ctx.ray_vertex_return
named_types ctx named.RayIntersection = handles ctx.ray_intersection

readings : (ctx : Context) (what : Reading) (contents : TypeInner) → Stays (read_from ctx what contents)
readings ctx (reading.Part index) contents = accesses ctx index contents
readings ctx (reading.Splat size) contents = splats size contents
readings ctx (reading.Swizzle size) contents = swizzles size contents
readings ctx reading.Load contents = loads ctx contents
readings ctx (reading.Sample gather) contents = step (sample gather) (samples gather) (class_of contents)
readings ctx reading.Texel contents = step (λ class. value (texel class)) texels (class_of contents)
readings ctx reading.Size contents = image_sizes contents
readings ctx reading.Truths contents = maps (λ _. BOOL) contents
readings ctx (reading.Cast kind convert) contents = maps (cast kind convert) contents
readings ctx (reading.Matrix columns rows role) contents =
    step (cooperative columns rows role) (λ scalar. refl) (scalar_behind ctx contents)

-- the type by each rule has itself as its copy
types_by_rules-stay : (ctx : Context) (known : ℕ → Option TypeResolution) (rule : Rule) → Stays (type_by ctx known rule)
types_by_rules-stay ctx known (rule.Fixed size scalar) = sizes size scalar
types_by_rules-stay ctx known (rule.Declared ty) = refl
types_by_rules-stay ctx known (rule.Named what) = named_types ctx what
types_by_rules-stay ctx known (rule.Like operand) = step copied copies (known operand)
types_by_rules-stay ctx known (rule.Read what operand) =
    step (read_from ctx what) (readings ctx what) (the ctx known operand)
types_by_rules-stay ctx known (rule.Product left right) = all_products ctx known left right
types_by_rules-stay ctx known (rule.Math fun first second) =
    step (λ ty. option_and_then (λ (c : TypeInner). applied ctx (rule_of fun) ty c (optional ctx known second))
    (inner_of ctx ty))
    (λ ty. step (λ c. applied ctx (rule_of fun) ty c (optional ctx known second))
    (applications ctx (rule_of fun) ty (optional ctx known second)) (inner_of ctx ty))
    (known first)

pub types-stay : TypesStay
types-stay ctx known expression = types_by_rules-stay ctx known (rule_of_expression expression)
