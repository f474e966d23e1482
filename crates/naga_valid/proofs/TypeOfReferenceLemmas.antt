-- What references lead to, in modules with the same constants and overrides.
use Rattle.std.proofs.Common.{◌≡◌, ◌∙◌, sym, ap, refl, ℕ}
use Rattle.std.specs.Prelude.{option_and_then}
use Rattle.std.specs.Option.{option_map}
use Rattle.naga_arena.specs.Arena.{value_at}
use Rattle.naga_ir.specs.declared.module.Constant as constant
use Rattle.naga_ir.specs.declared.module.Module as the_module
use Rattle.naga_ir.specs.declared.module.Override as override
use Rattle.naga_valid.specs.Valid.{IsAfterInit, IsBeforeType, init_of_reference, type_of_reference}
use Rattle.naga_valid.specs.declared.reference.Reference.{Reference}
use Rattle.naga_valid.specs.declared.reference.Reference.TheVariants as reference

module _ (old new : the_module.Module) (constants : new.constants ≡ old.constants) (overrides : new.overrides ≡ old.overrides) where
  type_of_reference-same : (to : Reference) → type_of_reference new to ≡ type_of_reference old to
  type_of_reference-same (reference.Constant handle) = ap (λ arena. option_map (λ (declared : constant.Constant). declared.ty) (value_at arena handle)) constants
  type_of_reference-same (reference.Override handle) = ap (λ arena. option_map (λ (declared : override.Override). declared.ty) (value_at arena handle)) overrides
  type_of_reference-same _ = refl

  init_of_reference-same : (to : Reference) → init_of_reference new to ≡ init_of_reference old to
  init_of_reference-same (reference.Constant handle) = ap (λ arena. option_map (λ (declared : constant.Constant). declared.init) (value_at arena handle)) constants
  init_of_reference-same (reference.Override handle) = ap (λ arena. option_and_then (λ (declared : override.Override). declared.init) (value_at arena handle)) overrides
  init_of_reference-same _ = refl

  pub IsAfterInit-same : (expression : ℕ) (to : Reference) → IsAfterInit old expression to → IsAfterInit new expression to
  IsAfterInit-same expression to after init is = after init (sym (init_of_reference-same to) ∙ is)

  pub IsBeforeType-same : (ty : ℕ) (to : Reference) → IsBeforeType old ty to → IsBeforeType new ty to
  IsBeforeType-same ty to before other is = before other (sym (type_of_reference-same to) ∙ is)
