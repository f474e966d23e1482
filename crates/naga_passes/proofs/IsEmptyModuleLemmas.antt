-- A module without declarations is valid.
use Rattle.std.proofs.Common.{◌≡◌, ◌∙◌, sym, ap, ℕ, List, ◌++◌, [], ◌∷◌, map, Option, None}
use Rattle.std.proofs.lemmas.List.Elements.{All-nil, All-same}
use Rattle.std.proofs.lemmas.Option.{none-some}
use Rattle.std.specs.List.{All}
use Rattle.std.specs.Map.{values_of}
use Rattle.std.specs.Option.{option_map}
use Rattle.std.specs.Prelude.{option_and_then, slice_get}
use Rattle.indexmap.specs.IndexMap.{keys, values as map_values}
use Rattle.naga_arena.specs.Arena.{value_at}
use Rattle.naga_arena.specs.declared.span.Span.{Span}
use Rattle.naga_ir.specs.Module.{HasNoSpecialTypes, IsEmptyModule}
use Rattle.naga_ir.specs.declared.module.EntryPoint as entry_point
use Rattle.naga_ir.specs.declared.module.Module as the_module
use Rattle.naga_ir.specs.declared.module.SpecialTypes as special
use Rattle.naga_ir.specs.declared.types.«Type».{«Type» as NamedType}
use Rattle.naga_valid.specs.Declarations.{references_of_constant, references_of_filter, references_of_global_variable, references_of_leaf, references_of_override, references_of_type}
use Rattle.naga_valid.specs.Expressions.{references_of_expression}
use Rattle.naga_valid.specs.Limits.{IsWithin}
use Rattle.naga_valid.specs.Places.{limits_at, references_found, references_in, references_in_part, references_of_entry_point, references_of_fixed_types, references_of_special_types}
use Rattle.naga_valid.specs.Reference.{present_then}
use Rattle.naga_valid.specs.Valid.{HandlesAreValid, IsAfterInit, IsConstant, SizePrecedes, init_of_reference, override_of_size, size_of_type, type_of_reference}
use Rattle.naga_valid.specs.declared.place.Place.{Place}
use Rattle.naga_valid.specs.declared.place.Place.TheVariants.{«Type», SpecialTypes, Constant, Override, GlobalVariable, GlobalExpression, Function, EntryPoint, EntryPointFunction, DiagnosticFilter, DiagnosticFilterLeaf, TypeComments, MemberComments, FunctionComments, ConstantComments, GlobalVariableComments}
use Rattle.naga_valid.specs.declared.reference.Reference.{Reference}
use Rattle.naga_valid.specs.declared.reference.Reference.TheVariants as reference

-- what a value contains that is not there
found-none : {X : Type 0} (found : Option X) → found ≡ None → (references : X → List Reference) → references_found references found ≡ []
found-none found none references = ap (references_found references) none

-- what an element of an empty arena contains
element-none : {X : Type 0} (arena : List (X × Span)) → arena ≡ [] → (handle : ℕ) (references : X → List Reference) → references_found references (value_at arena handle) ≡ []
element-none {X} arena none handle references =
    found-none (value_at arena handle) (ap (λ (xs : List (X × Span)). value_at xs handle) none) references

fixed_types-none : (types : special.SpecialTypes) → HasNoSpecialTypes types → references_of_fixed_types types ≡ []
fixed_types-none types is =
    λ i. present_then (map (option_map reference.«Type») (is.ray_desc i ∷ is.ray_intersection i ∷ is.ray_vertex_return i ∷ is.external_texture_params i ∷ is.external_texture_transfer_function i ∷ [])) []

predeclared-none : (types : special.SpecialTypes) → HasNoSpecialTypes types → map reference.«Type» (map_values types.predeclared_types) ≡ []
predeclared-none types is = ap (λ entries. map reference.«Type» (values_of entries)) is.predeclared_types

special_types-none : (types : special.SpecialTypes) → HasNoSpecialTypes types → references_of_special_types types ≡ []
special_types-none types is = λ i. fixed_types-none types is i ++ predeclared-none types is i

module _ (whole : the_module.Module) (is : IsEmptyModule whole) where
  entry_point-none : (position : ℕ) (references : entry_point.EntryPoint → List Reference) → references_found references (slice_get whole.entry_points.items position) ≡ []
  entry_point-none position references =
      found-none (slice_get whole.entry_points.items position) (ap (λ (entries : List entry_point.EntryPoint). slice_get entries position) is.entry_points) references

  references-none : (place : Place) → references_in whole place ≡ []
  references-none («Type» handle) = element-none whole.types is.types handle references_of_type
  references-none SpecialTypes = special_types-none whole.special_types is.special_types
  references-none (Constant handle) = element-none whole.constants is.constants handle references_of_constant
  references-none (Override handle) = element-none whole.overrides is.overrides handle references_of_override
  references-none (GlobalVariable handle) = element-none whole.global_variables is.global_variables handle references_of_global_variable
  references-none (GlobalExpression handle) = element-none whole.global_expressions is.global_expressions handle references_of_expression
  references-none (Function handle inner) = element-none whole.functions is.functions handle (λ declared. references_in_part declared inner)
  references-none (EntryPoint position) = entry_point-none position references_of_entry_point
  references-none (EntryPointFunction position inner) = entry_point-none position (λ entry. references_in_part entry.function inner)
  references-none (DiagnosticFilter handle) = element-none whole.diagnostic_filters is.diagnostic_filters handle references_of_filter
  references-none DiagnosticFilterLeaf = ap references_of_leaf is.diagnostic_filter_leaf
  references-none TypeComments = found-none whole.doc_comments is.doc_comments (λ comments. map reference.«Type» (keys comments.value.types))
  references-none MemberComments = found-none whole.doc_comments is.doc_comments (λ comments. map (λ key. reference.«Type» key.0) (keys comments.value.struct_members))
  references-none FunctionComments = found-none whole.doc_comments is.doc_comments (λ comments. map reference.Function (keys comments.value.functions))
  references-none ConstantComments = found-none whole.doc_comments is.doc_comments (λ comments. map reference.Constant (keys comments.value.constants))
  references-none GlobalVariableComments = found-none whole.doc_comments is.doc_comments (λ comments. map reference.GlobalVariable (keys comments.value.global_variables))

  -- what holds for all handles of a part holds, since there are none
  All-of_place : (P : Reference → Type 0) (place : Place) → All P (references_in whole place)
  All-of_place P place = All-same P (references_in whole place) [] (references-none place) (All-nil P)

  SizePrecedes-empty : (ty : ℕ) → SizePrecedes whole ty
  SizePrecedes-empty ty =
      let missing : value_at whole.types ty ≡ None = ap (λ (types : List (NamedType × Span)). value_at types ty) is.types in
      let size : size_of_type whole ty ≡ None = ap (option_and_then (λ (type : NamedType). override_of_size type.inner)) missing in record {
        type = λ other found. absurd (none-some other (sym (ap (option_and_then (λ handle. type_of_reference whole (reference.Override handle))) size) ∙ found));
        init = λ init expression found. absurd (none-some init (sym (ap (option_and_then (λ handle. init_of_reference whole (reference.Override handle))) size) ∙ found));
      }

  pub HandlesAreValid-empty : HandlesAreValid whole
  HandlesAreValid-empty = record {
    references = λ place. All-of_place (IsWithin (limits_at whole place)) place;
    expressions = λ expression. All-of_place (λ to. IsConstant to × IsAfterInit whole expression to) (GlobalExpression expression);
    sizes = SizePrecedes-empty;
  }
