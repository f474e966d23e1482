-- Renamed expressions have the renamed types, rule by rule.
use Rattle.std.proofs.Common.{◌≡◌, ℕ, Option, Some, None, Bool, true, false, if◌then◌else◌, List, [], ◌∷◌, zero, suc, map, refl, ap, sym, ◌∙◌}
use Rattle.std.specs.List.{slice_get}
use Rattle.std.specs.Prelude.{⊤, IfSome}
use Rattle.std.specs.Option.{option_map, option_and_then}
use Rattle.std.proofs.lemmas.List.{length-map, with_items_is}
use Rattle.naga_kinds.specs.declared.address_space.AddressSpace.{AddressSpace}
use Rattle.naga_kinds.specs.declared.address_space.AddressSpace.TheVariants as space
use Rattle.naga_kinds.specs.declared.image.ImageClass.{ImageClass}
use Rattle.naga_kinds.specs.declared.image.ImageClass.TheVariants as class
use Rattle.naga_kinds.specs.declared.image.ImageDimension.{ImageDimension}
use Rattle.naga_kinds.specs.declared.image.ImageDimension.TheVariants.{D1, D3}
use Rattle.naga_kinds.specs.declared.operator.SwizzleComponent.{SwizzleComponent}
use Rattle.naga_kinds.specs.declared.scalar.PredeclaredType.TheVariants.{ModfResult, FrexpResult}
use Rattle.naga_kinds.specs.declared.scalar.Scalar.{Scalar}
use Rattle.naga_kinds.specs.declared.scalar.VectorSize.{VectorSize}
use Rattle.naga_kinds.specs.declared.scalar.TheConstants.Scalar.{BOOL}
use Rattle.naga_ir.specs.declared.expression.Expression.{Expression}
use Rattle.naga_ir.specs.declared.expression.Expression.TheVariants.{ImageQuery, Binary, Relational}
use Rattle.naga_ir.specs.declared.types.StructMember.{StructMember}
use Rattle.naga_ir.specs.declared.types.TypeInner.{TypeInner}
use Rattle.naga_ir.specs.declared.types.TypeInner.TheVariants as inner
use Rattle.naga_compact.specs.Renaming.{Renaming}
use Rattle.naga_compact.specs.derived.Renaming.{rename_expression, rename_struct_member, rename_type_inner}
use Rattle.naga_typifier.specs.Context.{Context, inner_of}
use Rattle.naga_typifier.specs.Images.{class_of, extent, sample, size_of, texel}
use Rattle.naga_typifier.specs.Math.{accepted, applied, checked, given, outer, rule_of, shaped, size_in, transposed}
use Rattle.naga_typifier.specs.Rows.{accessed, cast, copied, handle, is_within, loaded, mapped, matrix_product, part_of, pointee, pointer_to, product, same_size, scalar_behind, scalar_in, sized, splatted, swizzled, value, when}
use Rattle.naga_typifier.specs.Rules.{rule_of_expression}
use Rattle.naga_typifier.specs.Table.{cooperative, optional, pointed, product_of, read_from, same, the, type_by, type_of, type_of_named, variable}
use Rattle.naga_typifier.specs.declared.math.MathResult.{MathResult}
use Rattle.naga_typifier.specs.declared.math.MathResult.TheVariants as gives
use Rattle.naga_typifier.specs.declared.math.MathRule.{MathRule}
use Rattle.naga_typifier.specs.declared.math.ArgumentShape.{ArgumentShape}
use Rattle.naga_typifier.specs.declared.math.ArgumentShape.TheVariants.{Components, Single, Vector, VectorOf, Square, Matrix}
use Rattle.naga_typifier.specs.declared.resolution.TypeResolution.{TypeResolution}
use Rattle.naga_typifier.specs.declared.resolution.TypeResolution.TheVariants as resolution
use Rattle.naga_typifier.specs.declared.rules.Named.{Named}
use Rattle.naga_typifier.specs.declared.rules.Named.TheVariants as named
use Rattle.naga_typifier.specs.declared.rules.Reading.{Reading}
use Rattle.naga_typifier.specs.declared.rules.Reading.TheVariants as reading
use Rattle.naga_typifier.specs.declared.rules.Rule.{Rule}
use Rattle.naga_typifier.specs.declared.rules.Rule.TheVariants as rule
use Rattle.naga_typifier.proofs.RulesLemmas.{rule_of_binary-by, rule_of_query-by, rule_of_relational-by}
use Rattle.naga_typing.specs.Operands.{Depends, DependsBy}
use Rattle.naga_typing.specs.Renamed.{HasRenamed, IsClosed, IsKept, MentionsKept, NamesAreRenamed, RenamesContext, rename_global, rename_resolution}
use Rattle.naga_typing.proofs.RenamedRulesLemmas.{rename_named, rename_rule, rule-renamed}

-- a step that gives the renamed result for a renamed value
pub bind : {A B : Type 0} (k : A → A) (l : B → B) (f g : A → Option B) → ((x : A) → g (k x) ≡ option_map l (f x)) → (found : Option A) → option_and_then g (option_map k found) ≡ option_map l (option_and_then f found)
bind k l f g step None = refl
bind k l f g step (Some x) = step x

-- the same where the step is known for values of which `P` holds
bind-if : {A B : Type 0} (P : A → Type 0) (k : A → A) (l : B → B) (f g : A → Option B) → ((x : A) → P x → g (k x) ≡ option_map l (f x)) → (found : Option A) → IfSome found P → option_and_then g (option_map k found) ≡ option_map l (option_and_then f found)
bind-if P k l f g step None holds = refl
bind-if P k l f g step (Some x) holds = step x holds

-- what holds of the results of a step
then-if : {A B : Type 0} (P : A → Type 0) (Q : B → Type 0) (f : A → Option B) → ((x : A) → P x → IfSome (f x) Q) → (found : Option A) → IfSome found P → IfSome (option_and_then f found) Q
then-if P Q f step None holds = tt
then-if P Q f step (Some x) holds = step x holds

pub keeps-if : {A B : Type 0} (P : A → Type 0) (k : A → A) (f g : A → Option B) → ((x : A) → P x → g (k x) ≡ f x) → (found : Option A) → IfSome found P → option_and_then g (option_map k found) ≡ option_and_then f found
keeps-if P k f g step None holds = refl
keeps-if P k f g step (Some x) holds = step x holds

-- a step whose value is not renamed
pub steps : {A B : Type 0} (f g : A → Option B) (l : B → B) → ((x : A) → g x ≡ option_map l (f x)) → (found : Option A) → option_and_then g found ≡ option_map l (option_and_then f found)
steps f g l step None = refl
steps f g l step (Some x) = step x

plain-bind : {A B : Type 0} (l : B → B) (f : A → Option B) → ((x : A) → f x ≡ option_map l (f x)) → (found : Option A) → option_and_then f found ≡ option_map l (option_and_then f found)
plain-bind l f step None = refl
plain-bind l f step (Some x) = step x

pub maps : {A B : Type 0} (k : A → A) (l : B → B) (f g : A → B) → ((x : A) → g (k x) ≡ l (f x)) → (found : Option A) → option_map g (option_map k found) ≡ option_map l (option_map f found)
maps k l f g step None = refl
maps k l f g step (Some x) = ap Some (step x)

-- two lookups in a row that find the same
pub keeps : {A B : Type 0} (k : A → A) (f : A → Option B) → ((x : A) → f (k x) ≡ f x) → (found : Option A) → option_and_then f (option_map k found) ≡ option_and_then f found
keeps k f step None = refl
keeps k f step (Some x) = step x

-- ---- what an expression names, by its rule

-- what is named has, at its new handle, the renamed type
abbrev NamedIsRenamed : (r : Renaming) → (ctx new : Context) → Named → Type 0
NamedIsRenamed r ctx new (named.Constant constant) = new.constants (r.constants constant) ≡ option_map r.types (ctx.constants constant)
NamedIsRenamed r ctx new (named.Override override) = new.overrides (r.overrides override) ≡ option_map r.types (ctx.overrides override)
NamedIsRenamed r ctx new (named.GlobalVariable global) = new.globals (r.global_variables global) ≡ option_map (rename_global r) (ctx.globals global)
NamedIsRenamed r ctx new (named.Result function) = new.results (r.functions function) ≡ option_map (option_map r.types) (ctx.results function)
NamedIsRenamed r ctx new what = ⊤

-- what a rule names has, at its new handle, the renamed type
abbrev NamesAreRenamedBy : (r : Renaming) → (ctx new : Context) → Rule → Type 0
NamesAreRenamedBy r ctx new (rule.Named what) = NamedIsRenamed r ctx new what
NamesAreRenamedBy r ctx new by = ⊤

names-by : (r : Renaming) (ctx new : Context) (expression : Expression) → NamesAreRenamed r ctx new expression → NamesAreRenamedBy r ctx new (rule_of_expression expression)
names-by r ctx new (ImageQuery image asked) names = rule_of_query-by (NamesAreRenamedBy r ctx new) image tt tt asked
names-by r ctx new (Binary of left right) names = rule_of_binary-by (λ by _. NamesAreRenamedBy r ctx new by) left right left right tt tt tt of
names-by r ctx new (Relational fun argument) names = rule_of_relational-by (λ by _. NamesAreRenamedBy r ctx new by) argument argument tt tt fun
names-by r ctx new expression names = names

module _ (r : Renaming) where
  -- ---- rows

  when-renamed : (holds : Bool) (contents : TypeInner) → rename_type_inner r contents ≡ contents → when holds contents ≡ option_map (rename_resolution r) (when holds contents)
  when-renamed true contents same = ap (λ (c : TypeInner). Some (resolution.Value c)) (sym same)
  when-renamed false contents same = refl

  copied-renamed : (ty : TypeResolution) → copied (rename_resolution r ty) ≡ option_map (rename_resolution r) (copied ty)
  copied-renamed (resolution.Handle ty) = refl
  copied-renamed (resolution.Value (inner.Scalar scalar)) = refl
  copied-renamed (resolution.Value contents) = refl

  member-renamed : (members : List StructMember) (index : ℕ) → option_map (λ (member : StructMember). handle member.ty) (slice_get (map (rename_struct_member r) members) index) ≡ option_map (rename_resolution r) (option_map (λ (member : StructMember). handle member.ty) (slice_get members index))
  member-renamed [] index = refl
  member-renamed (member ∷ members) zero = refl
  member-renamed (member ∷ members) (suc index) = member-renamed members index

  pub part_of-renamed : (index : Option ℕ) (contents : TypeInner) → part_of index (rename_type_inner r contents) ≡ option_map (rename_resolution r) (part_of index contents)
  part_of-renamed index (inner.Vector size scalar) = when-renamed (is_within index size) (inner.Scalar scalar) refl
  part_of-renamed index (inner.Matrix columns rows scalar) = when-renamed (is_within index columns) (inner.Vector rows scalar) refl
  part_of-renamed (Some index) (inner.Struct members span) =
      ap (λ (items : List StructMember). option_map (λ (member : StructMember). handle member.ty) (slice_get items index))
      (with_items_is members (map (rename_struct_member r) members.items) (length-map members.items (rename_struct_member r) ∙ sym members.ok.0))
      ∙ member-renamed members.items index
  part_of-renamed None (inner.Struct members span) = refl
  part_of-renamed None contents = refl
  part_of-renamed (Some index) contents = refl

  pointer_to-renamed : (space : AddressSpace) (part : TypeResolution) → pointer_to space (rename_resolution r part) ≡ option_map (rename_resolution r) (pointer_to space part)
  pointer_to-renamed space (resolution.Handle ty) = refl
  pointer_to-renamed space (resolution.Value (inner.Scalar scalar)) = refl
  pointer_to-renamed space (resolution.Value (inner.Vector size scalar)) = refl
  pointer_to-renamed space (resolution.Value contents) = refl

  pointee-renamed : (base : ℕ) (contents : TypeInner) → pointee (r.types base) (rename_type_inner r contents) ≡ rename_resolution r (pointee base contents)
  pointee-renamed base (inner.Atomic scalar) = refl
  pointee-renamed base contents = refl

  mapped-renamed : (f : Scalar → Scalar) (contents : TypeInner) → mapped f (rename_type_inner r contents) ≡ option_map (rename_resolution r) (mapped f contents)
  mapped-renamed f (inner.Scalar scalar) = refl
  mapped-renamed f (inner.Vector size scalar) = refl
  mapped-renamed f contents = refl

  splatted-renamed : (size : VectorSize) (contents : TypeInner) → splatted size (rename_type_inner r contents) ≡ option_map (rename_resolution r) (splatted size contents)
  splatted-renamed size (inner.Scalar scalar) = refl
  splatted-renamed size contents = refl

  swizzled-renamed : (size : VectorSize) (contents : TypeInner) → swizzled size (rename_type_inner r contents) ≡ option_map (rename_resolution r) (swizzled size contents)
  swizzled-renamed size (inner.Vector from scalar) = refl
  swizzled-renamed size contents = refl

  pub class_of-renamed : (contents : TypeInner) → class_of (rename_type_inner r contents) ≡ class_of contents
  class_of-renamed (inner.Image dim arrayed class) = refl
  class_of-renamed contents = refl

  sample-renamed : (gather : Option SwizzleComponent) (class : ImageClass) → sample gather class ≡ option_map (rename_resolution r) (sample gather class)
  sample-renamed (Some component) (class.Sampled kind multi) = refl
  sample-renamed (Some component) (class.Depth multi) = refl
  sample-renamed (Some component) class = refl
  sample-renamed None (class.Sampled kind multi) = refl
  sample-renamed None (class.Depth multi) = refl
  sample-renamed None class.External = refl
  sample-renamed None class = refl

  texel-renamed : (class : ImageClass) → value (texel class) ≡ option_map (rename_resolution r) (value (texel class))
  texel-renamed (class.Depth multi) = refl
  texel-renamed (class.Sampled kind multi) = refl
  texel-renamed (class.Storage format access) = refl
  texel-renamed class.External = refl

  extent-renamed : (dim : ImageDimension) → value (extent dim) ≡ option_map (rename_resolution r) (value (extent dim))
  extent-renamed D1 = refl
  extent-renamed D3 = refl
  extent-renamed dim = refl

  size_of-renamed : (contents : TypeInner) → size_of (rename_type_inner r contents) ≡ option_map (rename_resolution r) (size_of contents)
  size_of-renamed (inner.Image dim arrayed class) = extent-renamed dim
  size_of-renamed contents = refl

  matrix_product-renamed : (a b : TypeInner) → matrix_product (rename_type_inner r a) (rename_type_inner r b) ≡ option_map (rename_resolution r) (matrix_product a b)
  matrix_product-renamed (inner.Vector size also) (inner.Matrix columns rows scalar) = when-renamed (same_size rows size) (inner.Vector columns scalar) refl
  matrix_product-renamed (inner.Matrix columns rows scalar) (inner.Vector size also) = when-renamed (same_size columns size) (inner.Vector rows scalar) refl
  matrix_product-renamed (inner.Matrix columns rows scalar) (inner.Matrix others inside also) = when-renamed (same_size columns inside) (inner.Matrix others rows scalar) refl
  matrix_product-renamed a b = refl

  chosen-renamed : (holds : Bool) (ty : TypeResolution) → (if holds then copied (rename_resolution r ty) else None) ≡ option_map (rename_resolution r) (if holds then copied ty else None)
  chosen-renamed true ty = copied-renamed ty
  chosen-renamed false ty = refl

  product-renamed : (left right : TypeResolution) (a b : TypeInner) → product (rename_resolution r left) (rename_resolution r right) (rename_type_inner r a) (rename_type_inner r b) ≡ option_map (rename_resolution r) (product left right a b)
  product-renamed left right (inner.Scalar scalar) (inner.Scalar also) = copied-renamed left
  product-renamed left right (inner.Vector size scalar) (inner.Scalar also) = copied-renamed left
  product-renamed left right (inner.Matrix columns rows scalar) (inner.Scalar also) = copied-renamed left
  product-renamed left right (inner.Scalar scalar) (inner.Vector size also) = copied-renamed right
  product-renamed left right (inner.Scalar scalar) (inner.Matrix columns rows also) = copied-renamed right
  product-renamed left right (inner.Vector size scalar) (inner.Vector again also) = chosen-renamed (same_size size again) left
  product-renamed left right a b = matrix_product-renamed a b

  pub scalar_in-renamed : (contents : TypeInner) → scalar_in (rename_type_inner r contents) ≡ scalar_in contents
  scalar_in-renamed (inner.Scalar scalar) = refl
  scalar_in-renamed contents = refl

  -- ---- mathematical functions

  shaped-renamed : (shape : ArgumentShape) (contents : TypeInner) → shaped shape (rename_type_inner r contents) ≡ shaped shape contents
  shaped-renamed Components (inner.Scalar scalar) = refl
  shaped-renamed Components contents = refl
  shaped-renamed Single (inner.Scalar scalar) = refl
  shaped-renamed Single contents = refl
  shaped-renamed Vector (inner.Scalar scalar) = refl
  shaped-renamed Vector contents = refl
  shaped-renamed (VectorOf size) (inner.Scalar scalar) = refl
  shaped-renamed (VectorOf size) contents = refl
  shaped-renamed Square (inner.Scalar scalar) = refl
  shaped-renamed Square contents = refl
  shaped-renamed Matrix (inner.Scalar scalar) = refl
  shaped-renamed Matrix contents = refl

  pub size_in-renamed : (contents : TypeInner) → size_in (rename_type_inner r contents) ≡ size_in contents
  size_in-renamed (inner.Vector size scalar) = refl
  size_in-renamed contents = refl

  transposed-renamed : (contents : TypeInner) → transposed (rename_type_inner r contents) ≡ option_map (rename_resolution r) (transposed contents)
  transposed-renamed (inner.Matrix columns rows scalar) = refl
  transposed-renamed contents = refl

  outer-renamed : (a b : TypeInner) → outer (rename_type_inner r a) (rename_type_inner r b) ≡ option_map (rename_resolution r) (outer a b)
  outer-renamed (inner.Vector columns scalar) (inner.Vector rows also) = refl
  outer-renamed (inner.Vector columns scalar) b = refl
  outer-renamed a b = refl

  sized-renamed : (size : Option VectorSize) (scalar : Scalar) → value (sized size scalar) ≡ option_map (rename_resolution r) (value (sized size scalar))
  sized-renamed None scalar = refl
  sized-renamed (Some size) scalar = refl

  pub handles-renamed : (found : Option ℕ) → option_map handle (option_map r.types found) ≡ option_map (rename_resolution r) (option_map handle found)
  handles-renamed = maps r.types (rename_resolution r) handle handle (λ ty. refl)

  results-renamed : (found : Option (Option ℕ)) → option_map handle (option_and_then (λ (result : Option ℕ). result) (option_map (option_map r.types) found)) ≡ option_map (rename_resolution r) (option_map handle (option_and_then (λ (result : Option ℕ). result) found))
  results-renamed None = refl
  results-renamed (Some result) = handles-renamed result

  module _ (kept : ℕ → Bool) (ctx new : Context) (is : RenamesContext r kept ctx new) (closed : IsClosed kept ctx) where
    given-renamed : (argument : TypeResolution) (contents : TypeInner) (second : Option TypeInner) (scalar : Scalar) (of : MathResult) → given new (rename_resolution r argument) (rename_type_inner r contents) (option_map (rename_type_inner r) second) scalar of ≡ option_map (rename_resolution r) (given ctx argument contents second scalar of)
    given-renamed argument contents second scalar gives.Argument = copied-renamed argument
    given-renamed argument contents second scalar gives.Component = refl
    given-renamed argument contents second scalar gives.Transposed = transposed-renamed contents
    given-renamed argument contents second scalar gives.Outer = bind (rename_type_inner r) (rename_resolution r) (outer contents) (outer (rename_type_inner r contents)) (outer-renamed contents) second
    given-renamed argument contents second scalar gives.Modf =
        ap (λ size. option_map handle (new.predeclared (ModfResult size scalar))) (size_in-renamed contents)
        ∙ ap (option_map handle) (is.predeclared (ModfResult (size_in contents) scalar)) ∙ handles-renamed (ctx.predeclared (ModfResult (size_in contents) scalar))
    given-renamed argument contents second scalar gives.Frexp =
        ap (λ size. option_map handle (new.predeclared (FrexpResult size scalar))) (size_in-renamed contents)
        ∙ ap (option_map handle) (is.predeclared (FrexpResult (size_in contents) scalar)) ∙ handles-renamed (ctx.predeclared (FrexpResult (size_in contents) scalar))
    given-renamed argument contents second scalar (gives.Fixed size of) = sized-renamed size of

    applied-renamed : (rule : MathRule) (argument : TypeResolution) (contents : TypeInner) (second : Option TypeInner) → applied new rule (rename_resolution r argument) (rename_type_inner r contents) (option_map (rename_type_inner r) second) ≡ option_map (rename_resolution r) (applied ctx rule argument contents second)
    applied-renamed rule argument contents second =
        ap (λ found. option_and_then (λ (scalar : Scalar). given new (rename_resolution r argument) (rename_type_inner r contents) (option_map (rename_type_inner r) second) scalar rule.gives) (option_and_then (checked rule.scalars) found)) (shaped-renamed rule.shape contents)
        ∙ steps (λ (scalar : Scalar). given ctx argument contents second scalar rule.gives) (λ (scalar : Scalar). given new (rename_resolution r argument) (rename_type_inner r contents) (option_map (rename_type_inner r) second) scalar rule.gives) (rename_resolution r) (λ scalar. given-renamed argument contents second scalar rule.gives) (accepted rule contents)

    -- ---- pointers

    accessed-renamed : (index : Option ℕ) (contents : TypeInner) → MentionsKept kept contents → accessed new index (rename_type_inner r contents) ≡ option_map (rename_resolution r) (accessed ctx index contents)
    accessed-renamed index (inner.Pointer base space) kept =
        ap (λ found. option_and_then (pointer_to space) (option_and_then (part_of index) found)) (is.types base kept)
        ∙ ap (option_and_then (pointer_to space)) (bind (rename_type_inner r) (rename_resolution r) (part_of index) (part_of index) (part_of-renamed index) (ctx.types base))
        ∙ bind (rename_resolution r) (rename_resolution r) (pointer_to space) (pointer_to space) (pointer_to-renamed space) (option_and_then (part_of index) (ctx.types base))
    accessed-renamed index (inner.ValuePointer (Some size) scalar space) kept =
        ap (option_and_then (pointer_to space)) (part_of-renamed index (inner.Vector size scalar))
        ∙ bind (rename_resolution r) (rename_resolution r) (pointer_to space) (pointer_to space) (pointer_to-renamed space) (part_of index (inner.Vector size scalar))
    accessed-renamed index (inner.ValuePointer None scalar space) kept = part_of-renamed index (inner.ValuePointer None scalar space)
    accessed-renamed index contents kept = part_of-renamed index contents

    pub loaded-renamed : (contents : TypeInner) → MentionsKept kept contents → loaded new (rename_type_inner r contents) ≡ option_map (rename_resolution r) (loaded ctx contents)
    loaded-renamed (inner.Pointer base space) kept =
        ap (option_map (pointee (r.types base))) (is.types base kept)
        ∙ maps (rename_type_inner r) (rename_resolution r) (pointee base) (pointee (r.types base)) (pointee-renamed base) (ctx.types base)
    loaded-renamed (inner.ValuePointer size scalar space) kept = sized-renamed size scalar
    loaded-renamed contents kept = refl

    pub scalar_behind-renamed : (contents : TypeInner) → MentionsKept kept contents → scalar_behind new (rename_type_inner r contents) ≡ scalar_behind ctx contents
    scalar_behind-renamed (inner.Pointer base space) kept = ap (option_and_then scalar_in) (is.types base kept) ∙ keeps (rename_type_inner r) scalar_in scalar_in-renamed (ctx.types base)
    scalar_behind-renamed contents kept = refl

    inner_of-renamed : (ty : TypeResolution) → IsKept kept ty → inner_of new (rename_resolution r ty) ≡ option_map (rename_type_inner r) (inner_of ctx ty)
    inner_of-renamed (resolution.Handle ty) kept = is.types ty kept
    inner_of-renamed (resolution.Value contents) kept = refl

    contents-kept : (ty : TypeResolution) → IsKept kept ty → IfSome (inner_of ctx ty) (MentionsKept kept)
    contents-kept (resolution.Handle ty) kept = closed ty kept
    contents-kept (resolution.Value contents) kept = kept

    variable-renamed : (found : AddressSpace × ℕ) → variable (rename_global r found) ≡ rename_resolution r (variable found)
    variable-renamed (space.Handle, ty) = refl
    variable-renamed (space, ty) = refl

    -- ---- what a rule names and reads

    named-renamed : (what : Named) → NamedIsRenamed r ctx new what → type_of_named new (rename_named r what) ≡ option_map (rename_resolution r) (type_of_named ctx what)
    named-renamed (named.Constant constant) so = ap (option_map handle) so ∙ handles-renamed (ctx.constants constant)
    named-renamed (named.Override override) so = ap (option_map handle) so ∙ handles-renamed (ctx.overrides override)
    named-renamed (named.Argument index) so = ap (option_map handle) (is.arguments index) ∙ handles-renamed (ctx.arguments index)
    named-renamed (named.GlobalVariable global) so = ap (option_map variable) so ∙ maps (rename_global r) (rename_resolution r) variable variable variable-renamed (ctx.globals global)
    named-renamed (named.LocalVariable local) so = ap (option_map (pointed space.Function)) (is.locals local) ∙ maps r.types (rename_resolution r) (pointed space.Function) (pointed space.Function) (λ ty. refl) (ctx.locals local)
    named-renamed (named.Result function) so =
        ap (λ found. option_map handle (option_and_then (λ (result : Option ℕ). result) found)) so ∙ results-renamed (ctx.results function)
    named-renamed named.RayVertexReturn so = ap (option_map handle) is.ray_vertex_return ∙ handles-renamed ctx.ray_vertex_return
    named-renamed named.RayIntersection so = ap (option_map handle) is.ray_intersection ∙ handles-renamed ctx.ray_intersection

    reading-renamed : (what : Reading) (contents : TypeInner) → MentionsKept kept contents → read_from new what (rename_type_inner r contents) ≡ option_map (rename_resolution r) (read_from ctx what contents)
    reading-renamed (reading.Part index) contents kept = accessed-renamed index contents kept
    reading-renamed (reading.Splat size) contents kept = splatted-renamed size contents
    reading-renamed (reading.Swizzle size) contents kept = swizzled-renamed size contents
    reading-renamed reading.Load contents kept = loaded-renamed contents kept
    reading-renamed (reading.Sample gather) contents kept =
        ap (option_and_then (sample gather)) (class_of-renamed contents) ∙ plain-bind (rename_resolution r) (sample gather) (sample-renamed gather) (class_of contents)
    reading-renamed reading.Texel contents kept =
        ap (option_and_then (λ class. value (texel class))) (class_of-renamed contents) ∙ plain-bind (rename_resolution r) (λ class. value (texel class)) texel-renamed (class_of contents)
    reading-renamed reading.Size contents kept = size_of-renamed contents
    reading-renamed reading.Truths contents kept = mapped-renamed (λ _. BOOL) contents
    reading-renamed (reading.Cast kind convert) contents kept = mapped-renamed (cast kind convert) contents
    reading-renamed (reading.Matrix columns rows role) contents kept =
        ap (option_and_then (cooperative columns rows role)) (scalar_behind-renamed contents kept) ∙ plain-bind (rename_resolution r) (cooperative columns rows role) (λ scalar. refl) (scalar_behind ctx contents)

    -- ---- expressions

    module _ (known after : ℕ → Option TypeResolution) where
      pub the-renamed : (operand : ℕ) → HasRenamed r kept known after operand → the new after (r.expressions operand) ≡ option_map (rename_type_inner r) (the ctx known operand)
      the-renamed operand has =
          ap (option_and_then (inner_of new)) has.0
          ∙ bind-if (IsKept kept) (rename_resolution r) (rename_type_inner r) (inner_of ctx) (inner_of new) inner_of-renamed (known operand) has.1

      pub the-kept : (operand : ℕ) → HasRenamed r kept known after operand → IfSome (the ctx known operand) (MentionsKept kept)
      the-kept operand has = then-if (IsKept kept) (MentionsKept kept) (inner_of ctx) contents-kept (known operand) has.1

      -- a row on the contents of an operand's type
      row : (operand : ℕ) → HasRenamed r kept known after operand → (f g : TypeInner → Option TypeResolution) → ((contents : TypeInner) → MentionsKept kept contents → g (rename_type_inner r contents) ≡ option_map (rename_resolution r) (f contents)) → option_and_then g (the new after (r.expressions operand)) ≡ option_map (rename_resolution r) (option_and_then f (the ctx known operand))
      row operand has f g step = ap (option_and_then g) (the-renamed operand has) ∙ bind-if (MentionsKept kept) (rename_type_inner r) (rename_resolution r) f g step (the ctx known operand) (the-kept operand has)

      pub same-renamed : (operand : ℕ) → HasRenamed r kept known after operand → same new after (r.expressions operand) ≡ option_map (rename_resolution r) (same ctx known operand)
      same-renamed operand has = ap (option_and_then copied) has.0 ∙ bind (rename_resolution r) (rename_resolution r) copied copied copied-renamed (known operand)

      optional-renamed : (operand : Option ℕ) → IfSome operand (HasRenamed r kept known after) → optional new after (option_map r.expressions operand) ≡ option_map (rename_type_inner r) (optional ctx known operand)
      optional-renamed None has = refl
      optional-renamed (Some operand) has = the-renamed operand has

      contents-product : (left right : TypeResolution) → IsKept kept left → IsKept kept right → option_and_then (λ (a : TypeInner). option_and_then (product (rename_resolution r left) (rename_resolution r right) a) (inner_of new (rename_resolution r right))) (inner_of new (rename_resolution r left)) ≡ option_map (rename_resolution r) (option_and_then (λ (a : TypeInner). option_and_then (product left right a) (inner_of ctx right)) (inner_of ctx left))
      contents-product left right of_left of_right =
          ap (λ found. option_and_then (λ (a : TypeInner). option_and_then (product (rename_resolution r left) (rename_resolution r right) a) (inner_of new (rename_resolution r right))) found) (inner_of-renamed left of_left)
          ∙ bind (rename_type_inner r) (rename_resolution r) (λ a. option_and_then (product left right a) (inner_of ctx right)) (λ a. option_and_then (product (rename_resolution r left) (rename_resolution r right) a) (inner_of new (rename_resolution r right)))
          (λ a. ap (option_and_then (product (rename_resolution r left) (rename_resolution r right) (rename_type_inner r a))) (inner_of-renamed right of_right)
          ∙ bind (rename_type_inner r) (rename_resolution r) (product left right a) (product (rename_resolution r left) (rename_resolution r right) (rename_type_inner r a)) (product-renamed left right a) (inner_of ctx right))
          (inner_of ctx left)

      product_of-renamed : (left right : ℕ) → HasRenamed r kept known after left → HasRenamed r kept known after right → product_of new after (r.expressions left) (r.expressions right) ≡ option_map (rename_resolution r) (product_of ctx known left right)
      product_of-renamed left right has_left has_right =
          ap (option_and_then (λ (a : TypeResolution). option_and_then (λ (b : TypeResolution). option_and_then (λ (c : TypeInner). option_and_then (product a b c) (inner_of new b)) (inner_of new a)) (after (r.expressions right)))) has_left.0
          ∙ bind-if (IsKept kept) (rename_resolution r) (rename_resolution r) (λ a. option_and_then (λ (b : TypeResolution). option_and_then (λ (c : TypeInner). option_and_then (product a b c) (inner_of ctx b)) (inner_of ctx a)) (known right)) (λ a. option_and_then (λ (b : TypeResolution). option_and_then (λ (c : TypeInner). option_and_then (product a b c) (inner_of new b)) (inner_of new a)) (after (r.expressions right)))
          (λ a of_left. ap (option_and_then (λ (b : TypeResolution). option_and_then (λ (c : TypeInner). option_and_then (product (rename_resolution r a) b c) (inner_of new b)) (inner_of new (rename_resolution r a)))) has_right.0
          ∙ bind-if (IsKept kept) (rename_resolution r) (rename_resolution r) (λ b. option_and_then (λ (c : TypeInner). option_and_then (product a b c) (inner_of ctx b)) (inner_of ctx a)) (λ b. option_and_then (λ (c : TypeInner). option_and_then (product (rename_resolution r a) b c) (inner_of new b)) (inner_of new (rename_resolution r a))) (λ b of_right. contents-product a b of_left of_right) (known right) has_right.1)
          (known left) has_left.1

      computed-renamed : (rule : MathRule) (arg : ℕ) (arg1 : Option ℕ) → HasRenamed r kept known after arg → IfSome arg1 (HasRenamed r kept known after) → option_and_then (λ (t : TypeResolution). option_and_then (λ (c : TypeInner). applied new rule t c (optional new after (option_map r.expressions arg1))) (inner_of new t)) (after (r.expressions arg)) ≡ option_map (rename_resolution r) (option_and_then (λ (t : TypeResolution). option_and_then (λ (c : TypeInner). applied ctx rule t c (optional ctx known arg1)) (inner_of ctx t)) (known arg))
      computed-renamed rule arg arg1 has has1 =
          ap (λ second. option_and_then (λ (t : TypeResolution). option_and_then (λ (c : TypeInner). applied new rule t c second) (inner_of new t)) (after (r.expressions arg))) (optional-renamed arg1 has1)
          ∙ ap (option_and_then (λ (t : TypeResolution). option_and_then (λ (c : TypeInner). applied new rule t c (option_map (rename_type_inner r) (optional ctx known arg1))) (inner_of new t))) has.0
          ∙ bind-if (IsKept kept) (rename_resolution r) (rename_resolution r) (λ t. option_and_then (λ (c : TypeInner). applied ctx rule t c (optional ctx known arg1)) (inner_of ctx t)) (λ t. option_and_then (λ (c : TypeInner). applied new rule t c (option_map (rename_type_inner r) (optional ctx known arg1))) (inner_of new t))
          (λ t so. ap (option_and_then (λ (c : TypeInner). applied new rule (rename_resolution r t) c (option_map (rename_type_inner r) (optional ctx known arg1)))) (inner_of-renamed t so)
          ∙ bind (rename_type_inner r) (rename_resolution r) (λ c. applied ctx rule t c (optional ctx known arg1)) (λ c. applied new rule (rename_resolution r t) c (option_map (rename_type_inner r) (optional ctx known arg1))) (λ c. applied-renamed rule t c (optional ctx known arg1)) (inner_of ctx t))
          (known arg) has.1

      by_rule-renamed : (by : Rule) → NamesAreRenamedBy r ctx new by → DependsBy (HasRenamed r kept known after) by → type_by new after (rename_rule r by) ≡ option_map (rename_resolution r) (type_by ctx known by)
      by_rule-renamed (rule.Fixed size scalar) names has = sized-renamed size scalar
      by_rule-renamed (rule.Declared ty) names has = refl
      by_rule-renamed (rule.Named what) names has = named-renamed what names
      by_rule-renamed (rule.Like operand) names has = same-renamed operand has
      by_rule-renamed (rule.Read what operand) names has = row operand has (read_from ctx what) (read_from new what) (reading-renamed what)
      by_rule-renamed (rule.Product left right) names has = product_of-renamed left right has.0 has.1
      by_rule-renamed (rule.Math fun first second) names has = computed-renamed (rule_of fun) first second has.0 has.1

      pub renamed-types : (expression : Expression) → NamesAreRenamed r ctx new expression → Depends (HasRenamed r kept known after) expression → type_of new after (rename_expression r expression) ≡ option_map (rename_resolution r) (type_of ctx known expression)
      renamed-types expression names has =
          ap (type_by new after) (rule-renamed r expression) ∙ by_rule-renamed (rule_of_expression expression) (names-by r ctx new expression names) has
