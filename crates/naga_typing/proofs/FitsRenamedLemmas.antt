-- A renamed requirement is met where the requirement is.
use Rattle.std.proofs.Common.{◌≡◌, ◌∙◌, inl, inr, ap, sym, subst, refl, ℕ, ◌+◌, Bool, true, false, List, map, length, Option, None, Some}
use Rattle.std.proofs.lemmas.List.{length-map}
use Rattle.std.specs.Option.{option_and_then, option_map}
use Rattle.std.specs.Prelude.{IfSome, is_some}
use Rattle.naga_kinds.specs.Image.{is_depth}
use Rattle.naga_kinds.specs.declared.scalar.CooperativeSize.{CooperativeSize}
use Rattle.naga_kinds.specs.declared.scalar.Scalar.{Scalar}
use Rattle.naga_kinds.specs.declared.scalar.TheConstants.Scalar.{F16, F32, I32, U32}
use Rattle.naga_kinds.specs.declared.scalar.VectorSize.{VectorSize}
use Rattle.naga_ir.specs.declared.types.TypeInner.{TypeInner}
use Rattle.naga_valid.specs.declared.reference.Reference.{Reference}
use Rattle.naga_compact.specs.Renaming.{Renaming}
use Rattle.naga_compact.specs.derived.Renaming.{rename_type_inner}
use Rattle.naga_typifier.specs.Context.{Context}
use Rattle.naga_typifier.specs.Images.{class_of}
use Rattle.naga_typifier.specs.Rows.{scalar_behind, scalar_in}
use Rattle.naga_typifier.specs.Table.{the}
use Rattle.naga_typifier.specs.declared.resolution.TypeResolution.{TypeResolution}
use Rattle.naga_typing.specs.Composites.{entries_of, is_filled_by, takes, vector_scalar}
use Rattle.naga_typing.specs.Forms.{form}
use Rattle.naga_typing.specs.Kinds.{component, has_levels, has_samples, unsigned_size}
use Rattle.naga_typing.specs.Renamed.{HasRenamed, IsKept, MentionsKept, RenamesContext, TypesAreKept, rename_resolution}
use Rattle.naga_typing.specs.RenamedRequirements.{ExpectedNames, FirstNames, NameIsRenamed, OperandNames, RenamesSignature, RequirementNames, SlotNames, SourceNames, rename_expected, rename_first, rename_form, rename_requirement, rename_slot, rename_source}
use Rattle.naga_typing.specs.Requirements.{Fits, Has, HasFrom, IsExpected, IsIndex, IsLevel, IsMet, IsPart, SameSize, Signature, cooperative_columns, cooperative_rows, coordinate_size, dimension_of, entries_at, first_entries, is_of, layers_of, levels_of, passes, samples_of, scalar_in_cooperative, sized_type}
use Rattle.naga_typing.specs.declared.requirement.Expected.{Expected}
use Rattle.naga_typing.specs.declared.requirement.Expected.TheVariants as expected
use Rattle.naga_typing.specs.declared.requirement.FirstComponents.{FirstComponents}
use Rattle.naga_typing.specs.declared.requirement.Requirement.{Requirement}
use Rattle.naga_typing.specs.declared.requirement.Requirement.TheVariants as requirement
use Rattle.naga_typing.specs.declared.requirement.Source.{Source}
use Rattle.naga_typing.proofs.CompositesRenamedLemmas.{entries_of-renamed, is_filled_by-renamed, takes-renamed, vector_scalar-renamed}
use Rattle.naga_typing.proofs.IsOfRenamedLemmas.{component-renamed, cooperative_columns-renamed, cooperative_rows-renamed, dimension_of-renamed, is_some-mapped, layers_of-renamed, passes-mapped, passes-renamed, scalar_in_cooperative-renamed, unsigned_size-renamed}
use Rattle.naga_typing.proofs.KeptLemmas.{parts}
use Rattle.naga_typing.proofs.RenameFormLemmas.{form-renamed}
use Rattle.naga_typing.proofs.RenamedLemmas.{class_of-renamed, part_of-renamed, scalar_behind-renamed, scalar_in-renamed, size_in-renamed, the-kept, the-renamed}
use Rattle.naga_typing.proofs.WantedRenamedLemmas.{read, read-if, sized_type-kept, sized_type-renamed, wanted-kept, wanted-renamed}

length-mapped : (f : ℕ → ℕ) (found : Option (List ℕ)) → option_map length (option_map (map f) found) ≡ option_map length found
length-mapped f None = refl
length-mapped f (Some types) = ap Some (length-map types f)

present-mapped : (f : ℕ → ℕ) (found : Option (Option ℕ)) → option_map is_some (option_map (option_map f) found) ≡ option_map is_some found
present-mapped f None = refl
present-mapped f (Some result) = ap Some (is_some-mapped f result)

module _ (r : Renaming) (kept : ℕ → Bool) (ctx new : Context) (is : RenamesContext r kept ctx new) (all : TypesAreKept kept ctx)
    (signature signature' : Signature) (renamed : RenamesSignature r kept signature signature') (known after : ℕ → Option TypeResolution) where
  abbrev HasNew : ℕ → Type 0
  HasNew = HasRenamed r kept known after

  abbrev Named : Reference → Type 0
  Named = NameIsRenamed r kept signature signature' ctx new known after

  -- ---- types

  forms-renamed : (found : Option TypeResolution) → IfSome found (IsKept kept) → option_map (form new.types) (option_map (rename_resolution r) found) ≡ option_map (rename_form r) (option_map (form ctx.types) found)
  forms-renamed None so = refl
  forms-renamed (Some ty) so = ap Some (form-renamed r kept ctx new is all.closed ty so)

  Has-renamed : (operand : ℕ) → HasNew operand → (ty : TypeResolution) → IsKept kept ty → Has ctx known signature operand ty → Has new after signature' (r.expressions operand) (rename_resolution r ty)
  Has-renamed operand has ty so h =
      ap (option_map (form new.types)) has.0
      ∙ forms-renamed (known operand) has.1
      ∙ ap (option_map (rename_form r)) h
      ∙ ap Some (sym (form-renamed r kept ctx new is all.closed ty so))

  sized-renamed : (size : Option VectorSize) (scalar : Scalar) (operand : ℕ) → HasNew operand → Has ctx known signature operand (sized_type size scalar) → Has new after signature' (r.expressions operand) (sized_type size scalar)
  sized-renamed size scalar operand has h =
      subst (Has new after signature' (r.expressions operand)) (sym (sized_type-renamed r size scalar))
      (Has-renamed operand has (sized_type size scalar) (sized_type-kept kept size scalar) h)

  IsIndex-renamed : (size : Option VectorSize) (operand : ℕ) → HasNew operand → IsIndex ctx known signature size operand → IsIndex new after signature' size (r.expressions operand)
  IsIndex-renamed size operand has (inl h) = inl (sized-renamed size I32 operand has h)
  IsIndex-renamed size operand has (inr h) = inr (sized-renamed size U32 operand has h)

  IsLevel-renamed : (of_depths : Bool) (operand : ℕ) → HasNew operand → IsLevel ctx known signature of_depths operand → IsLevel new after signature' of_depths (r.expressions operand)
  IsLevel-renamed true operand has h = IsIndex-renamed None operand has h
  IsLevel-renamed false operand has (inl h) = inl (sized-renamed None F32 operand has h)
  IsLevel-renamed false operand has (inr h) = inr (sized-renamed None F16 operand has h)

  HasFrom-renamed : (operand : ℕ) → HasNew operand → (from : Source) → SourceNames Named from → HasFrom ctx known signature operand from → HasFrom new after signature' (r.expressions operand) (rename_source r from)
  HasFrom-renamed operand has from names (ty, is_wanted, h) = (
    rename_resolution r ty,
    wanted-renamed r kept ctx new is all signature signature' renamed known after from names ∙ ap (option_map (rename_resolution r)) is_wanted,
    Has-renamed operand has ty
        (subst (λ (found : Option TypeResolution). IfSome found (IsKept kept)) is_wanted (wanted-kept r kept ctx new is all signature signature' renamed known after from names)) h,
  )

  -- ---- operands

  -- what is read from the type of an operand, and does not depend on handles
  reads : {X : Type 0} (f : TypeInner → Option X) → ((what : TypeInner) → f (rename_type_inner r what) ≡ f what) → (operand : ℕ) → HasNew operand → option_and_then f (the new after (r.expressions operand)) ≡ option_and_then f (the ctx known operand)
  reads f same operand has = read r kept ctx new is all signature signature' renamed known after f same operand has

  -- the component of a composite value
  IsPart-renamed : (operand : ℕ) → HasNew operand → (position : ℕ) (of : Option Scalar) (what : TypeInner) → MentionsKept kept what → IsPart ctx known signature of what position operand → IsPart new after signature' of (rename_type_inner r what) position (r.expressions operand)
  IsPart-renamed operand has position (Some scalar) what so h = reads component (component-renamed r) operand has ∙ h
  IsPart-renamed operand has position None what so (ty, is_part, h) = (
    rename_resolution r ty,
    part_of-renamed r (Some position) what ∙ ap (option_map (rename_resolution r)) is_part,
    Has-renamed operand has ty (subst (λ (found : Option TypeResolution). IfSome found (IsKept kept)) is_part (parts kept (Some position) what so)) h,
  )

  -- ---- numbers of scalars

  entries_at-renamed : (operand : Option ℕ) → OperandNames Named operand → entries_at new after signature' (option_map r.expressions operand) ≡ entries_at ctx known signature operand
  entries_at-renamed None names = refl
  entries_at-renamed (Some operand) has =
      ap entries_of (the-renamed r kept ctx new is all.closed known after operand has) ∙ entries_of-renamed r (the ctx known operand)

  first_entries-renamed : (of : FirstComponents) → FirstNames Named of → first_entries new after signature' (rename_first r of) ≡ first_entries ctx known signature of
  first_entries-renamed of names = λ i.
      entries_at-renamed of.first names.0 i + entries_at-renamed of.second names.1 i + entries_at-renamed of.third names.2 i + entries_at-renamed of.fourth names.3 i

  -- two sizes that are the same
  sizes-renamed : (f : TypeInner → Option CooperativeSize) → ((what : TypeInner) → f (rename_type_inner r what) ≡ f what) → (first : ℕ) → HasNew first → (g : TypeInner → Option CooperativeSize) → ((what : TypeInner) → g (rename_type_inner r what) ≡ g what) → (second : ℕ) → HasNew second → SameSize (option_and_then f (the ctx known first)) (option_and_then g (the ctx known second)) → SameSize (option_and_then f (the new after (r.expressions first))) (option_and_then g (the new after (r.expressions second)))
  sizes-renamed f kept_f first has g kept_g second so (size, is_first, is_second) = (size, reads f kept_f first has ∙ is_first, reads g kept_g second so ∙ is_second)

  -- ---- what is expected

  IsExpected-renamed : (operand : ℕ) → HasNew operand → (what : Expected) → ExpectedNames Named what → IsExpected ctx known signature operand what → IsExpected new after signature' (r.expressions operand) (rename_expected r what)
  IsExpected-renamed operand has (expected.Kind kind) names h =
      ap (passes (is_of new kind)) (the-renamed r kept ctx new is all.closed known after operand has)
      ∙ passes-renamed r kept ctx new is all.closed kind (the ctx known operand) (the-kept r kept ctx new is all.closed known after operand has)
      ∙ h
  IsExpected-renamed operand has (expected.Type from) names h = HasFrom-renamed operand has from names h
  IsExpected-renamed operand has expected.Integer names h = IsIndex-renamed None operand has h
  IsExpected-renamed operand has (expected.Coordinate image) names (dim, is_found, h) =
      (dim, reads dimension_of (dimension_of-renamed r) image names ∙ is_found, IsIndex-renamed (coordinate_size dim) operand has h)
  IsExpected-renamed operand has (expected.CooperativeData target) names (scalar, is_found, h) = (
    scalar,
    reads scalar_in_cooperative (scalar_in_cooperative-renamed r) target names ∙ is_found,
    read-if r kept ctx new is all signature signature' renamed known after (scalar_behind ctx) (scalar_behind new) (scalar_behind-renamed r kept ctx new is all.closed) operand has ∙ h,
  )
  IsExpected-renamed operand has (expected.Either first second) names (inl h) = inl (HasFrom-renamed operand has first names.0 h)
  IsExpected-renamed operand has (expected.Either first second) names (inr h) = inr (HasFrom-renamed operand has second names.1 h)
  IsExpected-renamed operand has (expected.SameScalar other) names (scalar, is_found, h) =
      (scalar, reads scalar_in (scalar_in-renamed r) other names ∙ is_found, reads scalar_in (scalar_in-renamed r) operand has ∙ h)
  IsExpected-renamed operand has (expected.Shift left) names (what, is_found, h) = (
    rename_type_inner r what,
    the-renamed r kept ctx new is all.closed known after left names ∙ ap (option_map (rename_type_inner r)) is_found,
    reads unsigned_size (unsigned_size-renamed r) operand has ∙ h ∙ ap Some (sym (size_in-renamed r what)),
  )
  IsExpected-renamed operand has (expected.Level image) names (class, is_found, h) =
      (class, reads class_of (class_of-renamed r) image names ∙ is_found, IsLevel-renamed (is_depth class) operand has h)
  IsExpected-renamed operand has (expected.Component ty position) names (what, is_found, h) = (
    rename_type_inner r what,
    is.types ty names ∙ ap (option_map (rename_type_inner r)) is_found,
    subst (λ (of : Option Scalar). IsPart new after signature' of (rename_type_inner r what) position (r.expressions operand)) (sym (vector_scalar-renamed r what))
        (IsPart-renamed operand has position (vector_scalar what) what (subst (λ (found : Option TypeInner). IfSome found (MentionsKept kept)) is_found (all.closed ty names)) h),
  )

  -- ---- requirements

  IsMet-renamed : (required : Requirement) → RequirementNames Named required → IsMet ctx known signature required → IsMet new after signature' (rename_requirement r required)
  IsMet-renamed (requirement.Operand operand what) names h = IsExpected-renamed operand names.0 what names.1 h
  IsMet-renamed (requirement.Layers image has_index) names h = reads layers_of (layers_of-renamed r) image names ∙ h
  IsMet-renamed (requirement.ArgumentCount function count) names h = ap (option_map length) names.parameters ∙ length-mapped r.types (signature.parameters function) ∙ h
  IsMet-renamed (requirement.CallResult function has_result) names h = ap (option_map is_some) names.result ∙ present-mapped r.types (ctx.results function) ∙ h
  IsMet-renamed requirement.NoResult names h = renamed.result ∙ ap (option_map r.types) h
  IsMet-renamed (requirement.Samples image has_index) names h = reads samples_of (λ what. ap (option_map has_samples) (class_of-renamed r what)) image names ∙ h
  IsMet-renamed (requirement.Levels image has_level) names h = reads levels_of (λ what. ap (option_map has_levels) (class_of-renamed r what)) image names ∙ h
  IsMet-renamed (requirement.MathArgument fun position is_given) names h = h
  IsMet-renamed (requirement.ComponentCount ty count) names h =
      ap (passes (takes count)) (is.types ty names) ∙ passes-mapped (rename_type_inner r) (takes count) (takes-renamed r count) (ctx.types ty) ∙ h
  IsMet-renamed (requirement.VectorEntries ty of) names h =
      ap (λ (count : ℕ). passes (is_filled_by count) (new.types (r.types ty))) (first_entries-renamed of names.1)
      ∙ ap (passes (is_filled_by (first_entries ctx known signature of))) (is.types ty names.0)
      ∙ passes-mapped (rename_type_inner r) (is_filled_by (first_entries ctx known signature of)) (is_filled_by-renamed r (first_entries ctx known signature of)) (ctx.types ty)
      ∙ h
  IsMet-renamed (requirement.Contents ty kind) names h =
      ap (passes (is_of new kind)) (is.types ty names) ∙ passes-renamed r kept ctx new is all.closed kind (ctx.types ty) (all.closed ty names) ∙ h
  IsMet-renamed (requirement.Product a b c) names h = (
    sizes-renamed cooperative_columns (cooperative_columns-renamed r) a names.0 cooperative_rows (cooperative_rows-renamed r) b names.1 h.0,
    sizes-renamed cooperative_rows (cooperative_rows-renamed r) a names.0 cooperative_rows (cooperative_rows-renamed r) c names.2 h.1,
    sizes-renamed cooperative_columns (cooperative_columns-renamed r) b names.1 cooperative_columns (cooperative_columns-renamed r) c names.2 h.2,
  )

  pub Fits-renamed : (slot : Option Requirement) → SlotNames Named slot → Fits ctx known signature slot → Fits new after signature' (rename_slot r slot)
  Fits-renamed None names h = tt
  Fits-renamed (Some required) names h = IsMet-renamed required names h
