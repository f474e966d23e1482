-- The type that comes from a renamed source is the renamed type, and it is kept.
use Rattle.std.proofs.Common.{◌≡◌, ◌∙◌, ap, refl, ℕ, zero, suc, Bool, List, [], ◌∷◌, map, Option, None, Some}
use Rattle.std.proofs.lemmas.Option.{slice_get-map}
use Rattle.std.specs.List.{AllByRecursion}
use Rattle.std.specs.Option.{option_and_then, option_map}
use Rattle.std.specs.Prelude.{IfSome, slice_get}
use Rattle.naga_kinds.specs.declared.image.ImageDimension.{ImageDimension}
use Rattle.naga_kinds.specs.declared.scalar.PredeclaredType.TheVariants.{AtomicCompareExchangeWeakResult}
use Rattle.naga_kinds.specs.declared.scalar.Scalar.{Scalar}
use Rattle.naga_kinds.specs.declared.scalar.VectorSize.{VectorSize}
use Rattle.naga_kinds.specs.declared.scalar.VectorSize.TheVariants.{Quad}
use Rattle.naga_ir.specs.declared.types.TypeInner.{TypeInner}
use Rattle.naga_valid.specs.declared.reference.Reference.{Reference}
use Rattle.naga_compact.specs.Renaming.{Renaming}
use Rattle.naga_compact.specs.derived.Renaming.{rename_type_inner}
use Rattle.naga_typifier.specs.Context.{Context}
use Rattle.naga_typifier.specs.Math.{size_in}
use Rattle.naga_typifier.specs.Rows.{handle, loaded, scalar_in}
use Rattle.naga_typifier.specs.Table.{same, the}
use Rattle.naga_typifier.specs.declared.resolution.TypeResolution.{TypeResolution}
use Rattle.naga_typing.specs.Renamed.{HasRenamed, IsKept, MentionsKept, RenamesContext, TypeIsKept, TypesAreKept, rename_resolution}
use Rattle.naga_typing.specs.RenamedRequirements.{NameIsRenamed, RenamesSignature, SourceNames, rename_source}
use Rattle.naga_typing.specs.Requirements.{Signature, atomic_at, atomic_behind, case_scalar, coordinate_size, dimension_of, exchange_result, sized_type, texel_at, texel_scalar, wanted}
use Rattle.naga_typing.specs.declared.requirement.Source.{Source}
use Rattle.naga_typing.specs.declared.requirement.Source.TheVariants as source
use Rattle.naga_typing.proofs.IsOfRenamedLemmas.{atomic_behind-renamed, dimension_of-renamed, texel_scalar-renamed}
use Rattle.naga_typing.proofs.KeptLemmas as of_kept
use Rattle.naga_typing.proofs.RenamedLemmas.{bind, handles-renamed, keeps, keeps-if, loaded-renamed, maps, same-renamed, scalar_in-renamed, size_in-renamed, steps, the-kept, the-renamed}

-- what holds of each value of a function holds of the one for what is found
always : {A B : Type 0} (P : B → Type 0) (f : A → B) → ((x : A) → P (f x)) → (found : Option A) → IfSome (option_map f found) P
always P f holds None = tt
always P f holds (Some x) = holds x

-- a function whose values do not change when they are renamed
unchanged-map : {A B : Type 0} (l : B → B) (f : A → B) → ((x : A) → f x ≡ l (f x)) → (found : Option A) → option_map f found ≡ option_map l (option_map f found)
unchanged-map l f step None = refl
unchanged-map l f step (Some x) = ap Some (step x)

element-kept : (P : ℕ → Type 0) (position : ℕ) (types : List ℕ) → AllByRecursion P types → IfSome (slice_get types position) P
element-kept P zero [] all = tt
element-kept P (suc position) [] all = tt
element-kept P zero (ty ∷ types) all = all.0
element-kept P (suc position) (ty ∷ types) all = element-kept P position types all.1

module _ (r : Renaming) where
  pub sized_type-renamed : (size : Option VectorSize) (scalar : Scalar) → sized_type size scalar ≡ rename_resolution r (sized_type size scalar)
  sized_type-renamed None scalar = refl
  sized_type-renamed (Some size) scalar = refl

  -- scalars, or vectors of one size
  sizes-renamed : (size : Option VectorSize) (found : Option Scalar) → option_map (sized_type size) found ≡ option_map (rename_resolution r) (option_map (sized_type size) found)
  sizes-renamed size = unchanged-map (rename_resolution r) (sized_type size) (sized_type-renamed size)

module _ (kept : ℕ → Bool) where
  pub sized_type-kept : (size : Option VectorSize) (scalar : Scalar) → IsKept kept (sized_type size scalar)
  sized_type-kept None scalar = tt
  sized_type-kept (Some size) scalar = tt

  sizes-kept : (size : Option VectorSize) (found : Option Scalar) → IfSome (option_map (sized_type size) found) (IsKept kept)
  sizes-kept size = always (IsKept kept) (sized_type size) (sized_type-kept size)

module _ (r : Renaming) (kept : ℕ → Bool) (ctx new : Context) (is : RenamesContext r kept ctx new) (all : TypesAreKept kept ctx)
    (signature signature' : Signature) (renamed : RenamesSignature r kept signature signature') (known after : ℕ → Option TypeResolution) where
  abbrev Has : ℕ → Type 0
  Has = HasRenamed r kept known after

  abbrev Named : Reference → Type 0
  Named = NameIsRenamed r kept signature signature' ctx new known after

  -- ---- what is read from the type of an operand

  -- what does not depend on handles
  pub read : {X : Type 0} (f : TypeInner → Option X) → ((what : TypeInner) → f (rename_type_inner r what) ≡ f what) → (operand : ℕ) → Has operand → option_and_then f (the new after (r.expressions operand)) ≡ option_and_then f (the ctx known operand)
  read f same operand has = ap (option_and_then f) (the-renamed r kept ctx new is all.closed known after operand has) ∙ keeps (rename_type_inner r) f same (the ctx known operand)

  -- what depends on the types that contents mention
  pub read-if : {X : Type 0} (f g : TypeInner → Option X) → ((what : TypeInner) → MentionsKept kept what → g (rename_type_inner r what) ≡ f what) → (operand : ℕ) → Has operand → option_and_then g (the new after (r.expressions operand)) ≡ option_and_then f (the ctx known operand)
  read-if f g same operand has =
      ap (option_and_then g) (the-renamed r kept ctx new is all.closed known after operand has)
      ∙ keeps-if (MentionsKept kept) (rename_type_inner r) f g same (the ctx known operand) (the-kept r kept ctx new is all.closed known after operand has)

  atomic_at-renamed : (pointer : ℕ) → Has pointer → atomic_at new after signature' (r.expressions pointer) ≡ atomic_at ctx known signature pointer
  atomic_at-renamed = read-if (atomic_behind ctx) (atomic_behind new) (atomic_behind-renamed r kept ctx new is all.closed)

  texel_at-renamed : (image : ℕ) → Has image → texel_at new after signature' (r.expressions image) ≡ texel_at ctx known signature image
  texel_at-renamed = read texel_scalar (texel_scalar-renamed r)

  -- ---- sources

  loaded-from : (pointer : ℕ) → Has pointer → option_and_then (loaded new) (the new after (r.expressions pointer)) ≡ option_map (rename_resolution r) (option_and_then (loaded ctx) (the ctx known pointer))
  loaded-from pointer has =
      ap (option_and_then (loaded new)) (the-renamed r kept ctx new is all.closed known after pointer has)
      ∙ loads (the ctx known pointer) (the-kept r kept ctx new is all.closed known after pointer has)
    where
      loads : (found : Option TypeInner) → IfSome found (MentionsKept kept) → option_and_then (loaded new) (option_map (rename_type_inner r) found) ≡ option_map (rename_resolution r) (option_and_then (loaded ctx) found)
      loads None so = refl
      loads (Some what) so = loaded-renamed r kept ctx new is all.closed what so

  exchange_result-renamed : (found : Option Scalar) → option_map handle (option_and_then (exchange_result new after signature') found) ≡ option_map (rename_resolution r) (option_map handle (option_and_then (exchange_result ctx known signature) found))
  exchange_result-renamed found =
      ap (option_map handle) (steps (exchange_result ctx known signature) (exchange_result new after signature') r.types (λ scalar. is.predeclared (AtomicCompareExchangeWeakResult scalar)) found)
      ∙ handles-renamed r (option_and_then (exchange_result ctx known signature) found)

  pub wanted-renamed : (from : Source) → SourceNames Named from → wanted new after signature' (rename_source r from) ≡ option_map (rename_resolution r) (wanted ctx known signature from)
  wanted-renamed (source.Case value) names = sizes-renamed r None (case_scalar value)
  wanted-renamed (source.Same expression) names = same-renamed r kept ctx new is all.closed known after expression names
  wanted-renamed (source.Loaded pointer) names = loaded-from pointer names
  wanted-renamed (source.AtomicScalar pointer) names =
      ap (option_map (sized_type None)) (atomic_at-renamed pointer names) ∙ sizes-renamed r None (atomic_at ctx known signature pointer)
  wanted-renamed (source.ExchangeResult pointer) names =
      ap (λ (found : Option Scalar). option_map handle (option_and_then (exchange_result new after signature') found)) (atomic_at-renamed pointer names)
      ∙ exchange_result-renamed (atomic_at ctx known signature pointer)
  wanted-renamed (source.Texel image) names =
      ap (option_map (sized_type (Some Quad))) (texel_at-renamed image names) ∙ sizes-renamed r (Some Quad) (texel_at ctx known signature image)
  wanted-renamed (source.Component image) names =
      ap (option_map (sized_type None)) (texel_at-renamed image names) ∙ sizes-renamed r None (texel_at ctx known signature image)
  wanted-renamed (source.Argument function position) names =
      ap (λ (found : Option (List ℕ)). option_map handle (option_and_then (λ (types : List ℕ). slice_get types position) found)) names.parameters
      ∙ ap (option_map handle)
      (bind (map r.types) r.types (λ types. slice_get types position) (λ types. slice_get types position) (λ types. slice_get-map r.types types position) (signature.parameters function))
      ∙ handles-renamed r (option_and_then (λ (types : List ℕ). slice_get types position) (signature.parameters function))
  wanted-renamed source.RayDescription names = ap (option_map handle) renamed.ray_desc ∙ handles-renamed r signature.ray_desc
  wanted-renamed source.FunctionResult names = ap (option_map handle) renamed.result ∙ handles-renamed r signature.result
  wanted-renamed (source.Entry expression) names =
      ap (option_map (sized_type None)) (read scalar_in (scalar_in-renamed r) expression names)
      ∙ sizes-renamed r None (option_and_then scalar_in (the ctx known expression))
  wanted-renamed (source.Along expression scalar) names =
      ap (option_map (λ (what : TypeInner). sized_type (size_in what) scalar)) (the-renamed r kept ctx new is all.closed known after expression names)
      ∙ maps (rename_type_inner r) (rename_resolution r) (λ (what : TypeInner). sized_type (size_in what) scalar) (λ (what : TypeInner). sized_type (size_in what) scalar)
      (λ what. ap (λ (size : Option VectorSize). sized_type size scalar) (size_in-renamed r what) ∙ sized_type-renamed r (size_in what) scalar)
      (the ctx known expression)
  wanted-renamed (source.Position image scalar) names =
      ap (option_map (λ (dim : ImageDimension). sized_type (coordinate_size dim) scalar)) (read dimension_of (dimension_of-renamed r) image names)
      ∙ unchanged-map (rename_resolution r) (λ (dim : ImageDimension). sized_type (coordinate_size dim) scalar) (λ dim. sized_type-renamed r (coordinate_size dim) scalar)
      (option_and_then dimension_of (the ctx known image))
  wanted-renamed from names = refl

  pub wanted-kept : (from : Source) → SourceNames Named from → IfSome (wanted ctx known signature from) (IsKept kept)
  wanted-kept (source.Scalar scalar) names = tt
  wanted-kept (source.Case value) names = sizes-kept kept None (case_scalar value)
  wanted-kept (source.Same expression) names = of_kept.all_same kept ctx all known expression names.1
  wanted-kept (source.Loaded pointer) names = of_kept.row kept ctx all known pointer names.1 (loaded ctx) (of_kept.loads kept ctx all)
  wanted-kept (source.AtomicScalar pointer) names = sizes-kept kept None (atomic_at ctx known signature pointer)
  wanted-kept (source.ExchangeResult pointer) names =
      of_kept.handles kept (option_and_then (exchange_result ctx known signature) (atomic_at ctx known signature pointer))
      (of_kept.step (TypeIsKept kept) (exchange_result ctx known signature) (λ scalar. all.predeclared (AtomicCompareExchangeWeakResult scalar)) (atomic_at ctx known signature pointer))
  wanted-kept (source.Texel image) names = sizes-kept kept (Some Quad) (texel_at ctx known signature image)
  wanted-kept (source.Component image) names = sizes-kept kept None (texel_at ctx known signature image)
  wanted-kept (source.Argument function position) names =
      of_kept.handles kept (option_and_then (λ (types : List ℕ). slice_get types position) (signature.parameters function))
      (of_kept.steps (AllByRecursion (TypeIsKept kept)) (TypeIsKept kept) (λ types. slice_get types position) (element-kept (TypeIsKept kept) position)
      (signature.parameters function) names.parameters_kept)
  wanted-kept source.RayDescription names = of_kept.handles kept signature.ray_desc renamed.ray_desc_kept
  wanted-kept source.FunctionResult names = of_kept.handles kept signature.result renamed.result_kept
  wanted-kept (source.Declared ty) names = names
  wanted-kept (source.Entry expression) names = sizes-kept kept None (option_and_then scalar_in (the ctx known expression))
  wanted-kept (source.Along expression scalar) names =
      always (IsKept kept) (λ (what : TypeInner). sized_type (size_in what) scalar) (λ what. sized_type-kept kept (size_in what) scalar) (the ctx known expression)
  wanted-kept (source.Position image scalar) names =
      always (IsKept kept) (λ (dim : ImageDimension). sized_type (coordinate_size dim) scalar) (λ dim. sized_type-kept kept (coordinate_size dim) scalar) (option_and_then dimension_of (the ctx known image))
