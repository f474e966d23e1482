-- The type of an expression is kept if those of its operands are, and those that it names.
use Rattle.std.proofs.Common.{ℕ, Option, Some, None, Bool, true, false, List, [], ◌∷◌, zero, suc, if◌then◌else◌}
use Rattle.std.specs.List.{slice_get}
use Rattle.std.specs.Prelude.{⊤, IfSome}
use Rattle.std.specs.List.{AllByRecursion}
use Rattle.std.specs.Option.{option_map, option_and_then}
use Rattle.naga_kinds.specs.declared.address_space.AddressSpace.{AddressSpace}
use Rattle.naga_kinds.specs.declared.address_space.AddressSpace.TheVariants as space
use Rattle.naga_kinds.specs.declared.image.ImageClass.{ImageClass}
use Rattle.naga_kinds.specs.declared.image.ImageClass.TheVariants as class
use Rattle.naga_kinds.specs.declared.image.ImageDimension.{ImageDimension}
use Rattle.naga_kinds.specs.declared.image.ImageDimension.TheVariants.{D1, D3}
use Rattle.naga_kinds.specs.declared.operator.SwizzleComponent.{SwizzleComponent}
use Rattle.naga_kinds.specs.declared.scalar.PredeclaredType.TheVariants.{ModfResult, FrexpResult}
use Rattle.naga_kinds.specs.declared.scalar.Scalar.{Scalar}
use Rattle.naga_kinds.specs.declared.scalar.VectorSize.{VectorSize}
use Rattle.naga_kinds.specs.declared.scalar.TheConstants.Scalar.{BOOL}
use Rattle.naga_ir.specs.declared.expression.Expression.{Expression}
use Rattle.naga_ir.specs.declared.expression.Expression.TheVariants.{ImageQuery, Binary, Relational}
use Rattle.naga_ir.specs.declared.types.StructMember.{StructMember}
use Rattle.naga_ir.specs.declared.types.TypeInner.{TypeInner}
use Rattle.naga_ir.specs.declared.types.TypeInner.TheVariants as inner
use Rattle.naga_typifier.specs.Context.{Context, inner_of}
use Rattle.naga_typifier.specs.Images.{class_of, extent, sample, size_of, texel}
use Rattle.naga_typifier.specs.Math.{accepted, applied, given, outer, rule_of, size_in, transposed}
use Rattle.naga_typifier.specs.Rows.{accessed, cast, copied, handle, is_within, loaded, mapped, matrix_product, part_of, pointee, pointer_to, product, same_size, scalar_behind, sized, splatted, swizzled, value, when}
use Rattle.naga_typifier.specs.Rules.{rule_of_expression}
use Rattle.naga_typifier.specs.Table.{cooperative, optional, pointed, product_of, read_from, the, type_by, type_of, type_of_named, variable}
use Rattle.naga_typifier.specs.declared.math.MathResult.{MathResult}
use Rattle.naga_typifier.specs.declared.math.MathResult.TheVariants as gives
use Rattle.naga_typifier.specs.declared.math.MathRule.{MathRule}
use Rattle.naga_typifier.specs.declared.resolution.TypeResolution.{TypeResolution}
use Rattle.naga_typifier.specs.declared.resolution.TypeResolution.TheVariants as resolution
use Rattle.naga_typifier.specs.declared.rules.Named.{Named}
use Rattle.naga_typifier.specs.declared.rules.Named.TheVariants as named
use Rattle.naga_typifier.specs.declared.rules.Reading.{Reading}
use Rattle.naga_typifier.specs.declared.rules.Reading.TheVariants as reading
use Rattle.naga_typifier.specs.declared.rules.Rule.{Rule}
use Rattle.naga_typifier.specs.declared.rules.Rule.TheVariants as rule
use Rattle.naga_typifier.proofs.RulesLemmas.{rule_of_binary-by, rule_of_query-by, rule_of_relational-by}
use Rattle.naga_typing.specs.Operands.{Depends, DependsBy}
use Rattle.naga_typing.specs.Renamed.{IsKept, MentionsKept, NamesAreKept, TypeIsKept, TypesAreKept}

-- what holds of the results of a step, for values of which `P` holds
pub steps : {A B : Type 0} (P : A → Type 0) (Q : B → Type 0) (f : A → Option B) → ((x : A) → P x → IfSome (f x) Q) → (found : Option A) → IfSome found P → IfSome (option_and_then f found) Q
steps P Q f step None holds = tt
steps P Q f step (Some x) holds = step x holds

-- the same for each value
pub step : {A B : Type 0} (Q : B → Type 0) (f : A → Option B) → ((x : A) → IfSome (f x) Q) → (found : Option A) → IfSome (option_and_then f found) Q
step Q f of None = tt
step Q f of (Some x) = of x

pub maps : {A B : Type 0} (P : A → Type 0) (Q : B → Type 0) (f : A → B) → ((x : A) → P x → Q (f x)) → (found : Option A) → IfSome found P → IfSome (option_map f found) Q
maps P Q f step None holds = tt
maps P Q f step (Some x) holds = step x holds

-- ---- what an expression names, by its rule

-- the declared type of what is named is kept
abbrev NamedIsKept : (kept : ℕ → Bool) → Context → Named → Type 0
NamedIsKept kept ctx (named.Constant constant) = IfSome (ctx.constants constant) (TypeIsKept kept)
NamedIsKept kept ctx (named.Override override) = IfSome (ctx.overrides override) (TypeIsKept kept)
NamedIsKept kept ctx (named.GlobalVariable global) = IfSome (ctx.globals global) (λ found. TypeIsKept kept found.1)
NamedIsKept kept ctx (named.Result function) = IfSome (ctx.results function) (λ result. IfSome result (TypeIsKept kept))
NamedIsKept kept ctx what = ⊤

-- the type that a rule names, or that of what it names, is kept
abbrev NamesAreKeptBy : (kept : ℕ → Bool) → Context → Rule → Type 0
NamesAreKeptBy kept ctx (rule.Declared ty) = TypeIsKept kept ty
NamesAreKeptBy kept ctx (rule.Named what) = NamedIsKept kept ctx what
NamesAreKeptBy kept ctx by = ⊤

names-by : (kept : ℕ → Bool) (ctx : Context) (expression : Expression) → NamesAreKept kept ctx expression → NamesAreKeptBy kept ctx (rule_of_expression expression)
names-by kept ctx (ImageQuery image asked) names = rule_of_query-by (NamesAreKeptBy kept ctx) image tt tt asked
names-by kept ctx (Binary of left right) names = rule_of_binary-by (λ by _. NamesAreKeptBy kept ctx by) left right left right tt tt tt of
names-by kept ctx (Relational fun argument) names = rule_of_relational-by (λ by _. NamesAreKeptBy kept ctx by) argument argument tt tt fun
names-by kept ctx expression names = names

-- ---- types

module _ (kept : ℕ → Bool) where
  abbrev Kept : ℕ → Type 0
  Kept = TypeIsKept kept

  abbrev Mentions : TypeInner → Type 0
  Mentions = MentionsKept kept

  abbrev Keeps : TypeResolution → Type 0
  Keeps = IsKept kept

  pub handles : (found : Option ℕ) → IfSome found Kept → IfSome (option_map handle found) Keeps
  handles = maps Kept Keeps handle (λ ty kept. kept)

  copies : (ty : TypeResolution) → Keeps ty → IfSome (copied ty) Keeps
  copies (resolution.Handle ty) kept = kept
  copies (resolution.Value (inner.Pointer base space)) kept = kept
  copies (resolution.Value contents) kept = tt

  whens : (holds : Bool) (contents : TypeInner) → Mentions contents → IfSome (when holds contents) Keeps
  whens true contents kept = kept
  whens false contents kept = tt

  members : (list : List StructMember) (index : ℕ) → AllByRecursion (λ member. Kept member.ty) list → IfSome (option_map (λ (member : StructMember). handle member.ty) (slice_get list index)) Keeps
  members [] index kept = tt
  members (member ∷ list) zero kept = kept.0
  members (member ∷ list) (suc index) kept = members list index kept.1

  pub parts : (index : Option ℕ) (contents : TypeInner) → Mentions contents → IfSome (part_of index contents) Keeps
  parts index (inner.Vector size scalar) kept = whens (is_within index size) (inner.Scalar scalar) tt
  parts index (inner.Matrix columns rows scalar) kept = whens (is_within index columns) (inner.Vector rows scalar) tt
  parts index (inner.Array base size stride) kept = kept
  parts index (inner.BindingArray base size) kept = kept
  parts (Some index) (inner.Struct list span) kept = members list.items index kept
  parts None (inner.Struct list span) kept = tt
  parts None contents kept = tt
  parts (Some index) contents kept = tt

  pointers : (space : AddressSpace) (part : TypeResolution) → Keeps part → IfSome (pointer_to space part) Keeps
  pointers space (resolution.Handle base) kept = kept
  pointers space (resolution.Value (inner.Scalar scalar)) kept = tt
  pointers space (resolution.Value (inner.Vector size scalar)) kept = tt
  pointers space (resolution.Value contents) kept = tt

  pointees : (base : ℕ) → Kept base → (contents : TypeInner) → Keeps (pointee base contents)
  pointees base kept (inner.Atomic scalar) = tt
  pointees base kept contents = kept

  each_found : (base : ℕ) → Kept base → (found : Option TypeInner) → IfSome (option_map (pointee base) found) Keeps
  each_found base kept None = tt
  each_found base kept (Some contents) = pointees base kept contents

  sizes : (size : Option VectorSize) (scalar : Scalar) → IfSome (value (sized size scalar)) Keeps
  sizes None scalar = tt
  sizes (Some size) scalar = tt

  mappings : (f : Scalar → Scalar) (contents : TypeInner) → IfSome (mapped f contents) Keeps
  mappings f (inner.Scalar scalar) = tt
  mappings f (inner.Vector size scalar) = tt
  mappings f contents = tt

  splats : (size : VectorSize) (contents : TypeInner) → IfSome (splatted size contents) Keeps
  splats size (inner.Scalar scalar) = tt
  splats size contents = tt

  swizzles : (size : VectorSize) (contents : TypeInner) → IfSome (swizzled size contents) Keeps
  swizzles size (inner.Vector from scalar) = tt
  swizzles size contents = tt

  samples : (gather : Option SwizzleComponent) (class : ImageClass) → IfSome (sample gather class) Keeps
  samples (Some component) (class.Sampled kind multi) = tt
  samples (Some component) (class.Depth multi) = tt
  samples (Some component) class = tt
  samples None (class.Sampled kind multi) = tt
  samples None (class.Depth multi) = tt
  samples None class.External = tt
  samples None class = tt

  texels : (class : ImageClass) → IfSome (value (texel class)) Keeps
  texels (class.Depth multi) = tt
  texels (class.Sampled kind multi) = tt
  texels (class.Storage format access) = tt
  texels class.External = tt

  extents : (dim : ImageDimension) → IfSome (value (extent dim)) Keeps
  extents D1 = tt
  extents D3 = tt
  extents dim = tt

  image_sizes : (contents : TypeInner) → IfSome (size_of contents) Keeps
  image_sizes (inner.Image dim arrayed class) = extents dim
  image_sizes contents = tt

  matrix_products : (a b : TypeInner) → IfSome (matrix_product a b) Keeps
  matrix_products (inner.Vector size also) (inner.Matrix columns rows scalar) = whens (same_size rows size) (inner.Vector columns scalar) tt
  matrix_products (inner.Matrix columns rows scalar) (inner.Vector size also) = whens (same_size columns size) (inner.Vector rows scalar) tt
  matrix_products (inner.Matrix columns rows scalar) (inner.Matrix others inside also) = whens (same_size columns inside) (inner.Matrix others rows scalar) tt
  matrix_products a b = tt

  chosen : (holds : Bool) (ty : TypeResolution) → Keeps ty → IfSome (if holds then copied ty else None) Keeps
  chosen true ty so = copies ty so
  chosen false ty so = tt

  products : (left right : TypeResolution) → Keeps left → Keeps right → (a b : TypeInner) → IfSome (product left right a b) Keeps
  products left right kl kr (inner.Scalar scalar) (inner.Scalar also) = copies left kl
  products left right kl kr (inner.Vector size scalar) (inner.Scalar also) = copies left kl
  products left right kl kr (inner.Matrix columns rows scalar) (inner.Scalar also) = copies left kl
  products left right kl kr (inner.Scalar scalar) (inner.Vector size also) = copies right kr
  products left right kl kr (inner.Scalar scalar) (inner.Matrix columns rows also) = copies right kr
  products left right kl kr (inner.Vector size scalar) (inner.Vector again also) = chosen (same_size size again) left kl
  products left right kl kr a b = matrix_products a b

  transposes : (contents : TypeInner) → IfSome (transposed contents) Keeps
  transposes (inner.Matrix columns rows scalar) = tt
  transposes contents = tt

  outers : (a b : TypeInner) → IfSome (outer a b) Keeps
  outers (inner.Vector columns scalar) (inner.Vector rows also) = tt
  outers (inner.Vector columns scalar) b = tt
  outers a b = tt

  variables : (space : AddressSpace) (ty : ℕ) → Kept ty → Keeps (pointed space ty)
  variables space.Handle ty kept = kept
  variables space ty kept = kept

  module _ (ctx : Context) (is : TypesAreKept kept ctx) where
    accesses : (index : Option ℕ) (contents : TypeInner) → Mentions contents → IfSome (accessed ctx index contents) Keeps
    accesses index (inner.Pointer base space) kept =
        steps Keeps Keeps (pointer_to space) (pointers space) (option_and_then (part_of index) (ctx.types base))
        (steps Mentions Keeps (part_of index) (parts index) (ctx.types base) (is.closed base kept))
    accesses index (inner.ValuePointer (Some size) scalar space) kept = steps Keeps Keeps (pointer_to space) (pointers space) (part_of index (inner.Vector size scalar)) (parts index (inner.Vector size scalar) tt)
    accesses index (inner.ValuePointer None scalar space) kept = parts index (inner.ValuePointer None scalar space) tt
    accesses index contents kept = parts index contents kept

    pub loads : (contents : TypeInner) → Mentions contents → IfSome (loaded ctx contents) Keeps
    loads (inner.Pointer base space) kept = each_found base kept (ctx.types base)
    loads (inner.ValuePointer size scalar space) kept = sizes size scalar
    loads contents kept = tt

    contents_of : (ty : TypeResolution) → Keeps ty → IfSome (inner_of ctx ty) Mentions
    contents_of (resolution.Handle ty) kept = is.closed ty kept
    contents_of (resolution.Value contents) kept = kept

    gifts : (argument : TypeResolution) → Keeps argument → (contents : TypeInner) (second : Option TypeInner) (of : MathResult) (scalar : Scalar) → IfSome (given ctx argument contents second scalar of) Keeps
    gifts argument kept contents second gives.Argument scalar = copies argument kept
    gifts argument kept contents second gives.Component scalar = tt
    gifts argument kept contents second gives.Transposed scalar = transposes contents
    gifts argument kept contents second gives.Outer scalar = step Keeps (outer contents) (outers contents) second
    gifts argument kept contents second gives.Modf scalar = handles (ctx.predeclared (ModfResult (size_in contents) scalar)) (is.predeclared (ModfResult (size_in contents) scalar))
    gifts argument kept contents second gives.Frexp scalar = handles (ctx.predeclared (FrexpResult (size_in contents) scalar)) (is.predeclared (FrexpResult (size_in contents) scalar))
    gifts argument kept contents second (gives.Fixed size of) scalar = sizes size of

    applications : (rule : MathRule) (argument : TypeResolution) → Keeps argument → (second : Option TypeInner) (contents : TypeInner) → IfSome (applied ctx rule argument contents second) Keeps
    applications rule argument kept second contents = step Keeps (λ scalar. given ctx argument contents second scalar rule.gives) (gifts argument kept contents second rule.gives) (accepted rule contents)

    named-kept : (what : Named) → NamedIsKept kept ctx what → IfSome (type_of_named ctx what) Keeps
    named-kept (named.Constant constant) so = handles (ctx.constants constant) so
    named-kept (named.Override override) so = handles (ctx.overrides override) so
    named-kept (named.Argument index) so = handles (ctx.arguments index) (is.arguments index)
    named-kept (named.GlobalVariable global) so = maps (λ (found : AddressSpace × ℕ). Kept found.1) Keeps variable (λ found kept. variables found.0 found.1 kept) (ctx.globals global) so
    named-kept (named.LocalVariable local) so = maps Kept Keeps (pointed space.Function) (variables space.Function) (ctx.locals local) (is.locals local)
    named-kept (named.Result function) so =
        handles (option_and_then (λ (result : Option ℕ). result) (ctx.results function))
        (steps (λ (result : Option ℕ). IfSome result Kept) Kept (λ result. result) (λ result so. so) (ctx.results function) so)
    named-kept named.RayVertexReturn so = handles ctx.ray_vertex_return is.ray_vertex_return
    named-kept named.RayIntersection so = handles ctx.ray_intersection is.ray_intersection

    readings : (what : Reading) (contents : TypeInner) → Mentions contents → IfSome (read_from ctx what contents) Keeps
    readings (reading.Part index) contents kept = accesses index contents kept
    readings (reading.Splat size) contents kept = splats size contents
    readings (reading.Swizzle size) contents kept = swizzles size contents
    readings reading.Load contents kept = loads contents kept
    readings (reading.Sample gather) contents kept = step Keeps (sample gather) (samples gather) (class_of contents)
    readings reading.Texel contents kept = step Keeps (λ class. value (texel class)) texels (class_of contents)
    readings reading.Size contents kept = image_sizes contents
    readings reading.Truths contents kept = mappings (λ _. BOOL) contents
    readings (reading.Cast kind convert) contents kept = mappings (cast kind convert) contents
    readings (reading.Matrix columns rows role) contents kept = step Keeps (cooperative columns rows role) (λ scalar. tt) (scalar_behind ctx contents)

    module _ (known : ℕ → Option TypeResolution) where
      abbrev Has : ℕ → Type 0
      Has operand = IfSome (known operand) Keeps

      pub row : (operand : ℕ) → Has operand → (f : TypeInner → Option TypeResolution) → ((contents : TypeInner) → Mentions contents → IfSome (f contents) Keeps) → IfSome (option_and_then f (the ctx known operand)) Keeps
      row operand has f of = steps Mentions Keeps f of (the ctx known operand) (steps Keeps Mentions (inner_of ctx) contents_of (known operand) has)

      pub all_same : (operand : ℕ) → Has operand → IfSome (option_and_then copied (known operand)) Keeps
      all_same operand has = steps Keeps Keeps copied copies (known operand) has

      all_products : (left right : ℕ) → Has left → Has right → IfSome (product_of ctx known left right) Keeps
      all_products left right hl hr =
          steps Keeps Keeps (λ a. option_and_then (λ (b : TypeResolution). option_and_then (λ (c : TypeInner). option_and_then (product a b c) (inner_of ctx b)) (inner_of ctx a)) (known right))
          (λ a ka. steps Keeps Keeps (λ b. option_and_then (λ (c : TypeInner). option_and_then (product a b c) (inner_of ctx b)) (inner_of ctx a))
          (λ b kb. step Keeps (λ c. option_and_then (product a b c) (inner_of ctx b)) (λ c. step Keeps (product a b c) (products a b ka kb c) (inner_of ctx b)) (inner_of ctx a))
          (known right) hr)
          (known left) hl

      by_rule-kept : (by : Rule) → NamesAreKeptBy kept ctx by → DependsBy Has by → IfSome (type_by ctx known by) Keeps
      by_rule-kept (rule.Fixed size scalar) names has = sizes size scalar
      by_rule-kept (rule.Declared ty) names has = names
      by_rule-kept (rule.Named what) names has = named-kept what names
      by_rule-kept (rule.Like operand) names has = all_same operand has
      by_rule-kept (rule.Read what operand) names has = row operand has (read_from ctx what) (readings what)
      by_rule-kept (rule.Product left right) names has = all_products left right has.0 has.1
      by_rule-kept (rule.Math fun first second) names has =
          steps Keeps Keeps (λ ty. option_and_then (λ (c : TypeInner). applied ctx (rule_of fun) ty c (optional ctx known second)) (inner_of ctx ty))
          (λ ty kept. step Keeps (λ c. applied ctx (rule_of fun) ty c (optional ctx known second)) (applications (rule_of fun) ty kept (optional ctx known second)) (inner_of ctx ty))
          (known first) has.0

      pub results-kept : (expression : Expression) → NamesAreKept kept ctx expression → Depends Has expression → IfSome (type_of ctx known expression) Keeps
      results-kept expression names has = by_rule-kept (rule_of_expression expression) (names-by kept ctx expression names) has
