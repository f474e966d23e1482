-- Sizes that are overrides, for one type after another.
use Rattle.std.proofs.Common.{◌≡◌, ◌∙◌, ap, refl, sym, arith, ℕ, ◌+◌, ◌<◌, ◌≤◌, length, Option, Some, None, Result, Ok, Err}
use Rattle.std.specs.Prelude.{IfOk, option_and_then}
use Rattle.std.specs.List.{Contains}
use Rattle.std.specs.Option.{ForSome}
use Rattle.std.proofs.lemmas.List.Elements.{All-contains, All-weaker}
use Rattle.std.proofs.lemmas.List.{length-map}
use Rattle.std.proofs.lemmas.Option.{none-some, same_Some, slice_get_within}
use Rattle.naga_arena.specs.Arena.{value_at, values}
use Rattle.naga_ir.specs.declared.module.Module as the_module
use Rattle.naga_ir.specs.declared.types.«Type».{«Type» as NamedType}
use Rattle.naga_valid.specs.Places.{references_in}
use Rattle.naga_valid.specs.Valid.{IsBeforeType, RefersBefore, SizePrecedes, init_of_reference, init_of_size, override_of_size, size_of_type, type_of_reference, type_of_size}
use Rattle.naga_valid.specs.declared.reference.Reference.{Reference}
use Rattle.naga_valid.specs.declared.reference.Reference.TheVariants as reference
use Rattle.naga_valid.specs.declared.place.Place.TheVariants as place

module _ (whole : the_module.Module) (ty : ℕ) where
  -- what is before a type is before the next one
  IsBeforeType-later : (to : Reference) → IsBeforeType whole ty to → IsBeforeType whole (ty + 1) to
  IsBeforeType-later to before = λ other is. let earlier : other < ty = before other is in omega (arith, earlier)

  pub RefersBefore-later : (expression : ℕ) → RefersBefore whole ty expression → RefersBefore whole (ty + 1) expression
  RefersBefore-later expression before =
      All-weaker (IsBeforeType whole ty) (IsBeforeType whole (ty + 1)) IsBeforeType-later (references_in whole (place.GlobalExpression expression)) before

  -- the type and the init of the override that is the size, or of none
  pub type_of_size-is : (found : Option ℕ) → size_of_type whole ty ≡ found → type_of_size whole ty ≡ option_and_then (λ handle. type_of_reference whole (reference.Override handle)) found
  type_of_size-is found is = ap (option_and_then (λ handle. type_of_reference whole (reference.Override handle))) is

  pub init_of_size-is : (found : Option ℕ) → size_of_type whole ty ≡ found → init_of_size whole ty ≡ option_and_then (λ handle. init_of_reference whole (reference.Override handle)) found
  init_of_size-is found is = ap (option_and_then (λ handle. init_of_reference whole (reference.Override handle))) is

  -- the size is not that of an override
  pub SizePrecedes-none : size_of_type whole ty ≡ None → SizePrecedes whole ty
  SizePrecedes-none missing = record {
    type = λ other is. absurd (none-some other (sym (type_of_size-is None missing) ∙ is));
    init = λ init expression is within. absurd (none-some init (sym (init_of_size-is None missing) ∙ is));
  }

  -- the size is that of an override
  module _ (size : ℕ) (has : size_of_type whole ty ≡ Some size) where
    pub SizePrecedes-some : ForSome (type_of_reference whole (reference.Override size)) (λ other. other < ty) → ((init expression : ℕ) → init_of_reference whole (reference.Override size) ≡ Some init → expression ≤ init → RefersBefore whole ty expression) → SizePrecedes whole ty
    SizePrecedes-some before refers = record {
      type = λ other is. before other (sym (type_of_size-is (Some size) has) ∙ is);
      init = λ init expression is within. refers init expression (sym (init_of_size-is (Some size) has) ∙ is) within;
    }

    -- what the check of the init returns
    pub SizePrecedes-checked : {E : Type 0} (init : ℕ) (result : Result ℕ E) → init_of_reference whole (reference.Override size) ≡ Some init → IsBeforeType whole ty (reference.Override size) → IfOk result (λ next. init < next) → IfOk result (λ next. (expression : ℕ) → expression < next → RefersBefore whole ty expression) → IfOk result (λ _. SizePrecedes whole ty)
    SizePrecedes-checked init (Err error) is before past tested = tt
    SizePrecedes-checked init (Ok next) is before past tested =
        SizePrecedes-some before (λ other expression other_is within.
        let same : init ≡ other = same_Some init other (sym is ∙ other_is) in
        tested expression (omega (arith, past, same, within)))

    -- the type of the override is not before the type
    pub SizePrecedes-no_type : (depends_on : ℕ) → type_of_reference whole (reference.Override size) ≡ Some depends_on → ty ≤ depends_on → SizePrecedes whole ty → ⊥
    SizePrecedes-no_type depends_on is late precedes =
        let before : depends_on < ty = precedes.type depends_on (type_of_size-is (Some size) has ∙ is) in
        omega (arith, before, late)

  -- a reference that is not before the type, in an expression up to the init of its size
  pub SizePrecedes-no_init : (init expression depends_on : ℕ) (to : Reference) → init_of_size whole ty ≡ Some init → expression ≤ init → Contains (references_in whole (place.GlobalExpression expression)) to → type_of_reference whole to ≡ Some depends_on → ty ≤ depends_on → SizePrecedes whole ty → ⊥
  SizePrecedes-no_init init expression depends_on to is within inside leads late precedes =
      let before : depends_on < ty = All-contains (IsBeforeType whole ty) (references_in whole (place.GlobalExpression expression)) to (precedes.init init expression is within) inside depends_on leads in
      omega (arith, before, late)

-- the types before `count` are all of them
pub SizePrecedes-all : (whole : the_module.Module) (count : ℕ) → length whole.types ≤ count → ((ty : ℕ) → ty < count → SizePrecedes whole ty) → (ty : ℕ) → SizePrecedes whole ty
SizePrecedes-all whole count past before ty = by_type (value_at whole.types ty) refl
  where
    by_type : (found : Option NamedType) → value_at whole.types ty ≡ found → SizePrecedes whole ty
    by_type None is = SizePrecedes-none whole ty (ap (option_and_then (λ (type : NamedType). override_of_size type.inner)) is)
    by_type (Some type) is =
        let within : ty < length (values whole.types) = slice_get_within (values whole.types) ty type is in
        before ty (omega (arith, within, length-map whole.types (λ pair. pair.0), past))
