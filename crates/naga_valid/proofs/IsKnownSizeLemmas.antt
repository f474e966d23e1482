-- The sizes of types whose handles are within limits.
use Rattle.std.proofs.Common.{◌≡◌, refl, subst, sym, ℕ, ◌<◌, length, [], ◌∷◌, Option, Some}
use Rattle.std.specs.Prelude.{option_to_list}
use Rattle.std.specs.Option.{option_map}
use Rattle.std.proofs.lemmas.Option.{none-some, same_Some}
use Rattle.naga_arena.specs.Arena.{value_at, values}
use Rattle.naga_ir.specs.Constant.{IsKnownSize}
use Rattle.naga_ir.specs.declared.global_ctx.GlobalCtx.{GlobalCtx}
use Rattle.naga_ir.specs.declared.module.Module as the_module
use Rattle.naga_ir.specs.declared.types.ArraySize.{ArraySize}
use Rattle.naga_ir.specs.declared.types.ArraySize.TheVariants as size
use Rattle.naga_ir.specs.declared.types.«Type».{«Type» as NamedType}
use Rattle.naga_ir.specs.declared.types.TypeInner.{TypeInner}
use Rattle.naga_ir.specs.declared.types.TypeInner.TheVariants.{Array, BindingArray}
use Rattle.naga_valid.specs.Contexts.{IsContextOf, size_of}
use Rattle.naga_valid.specs.Declarations.{references_of_inner, references_of_type, pending_of}
use Rattle.naga_valid.specs.Limits.{AreWithin}
use Rattle.naga_valid.specs.Places.{lengths}
use Rattle.naga_valid.specs.Valid.{HandlesAreValid}
use Rattle.naga_valid.specs.declared.limits.Limits.{Limits}
use Rattle.naga_valid.specs.declared.reference.Reference.TheVariants as reference
use Rattle.naga_valid.proofs.EachIsWithinLemmas.{EachIsWithin-at}
use Rattle.naga_valid.proofs.HandlesAreValidLemmas.{HandlesAreValid-types}
use Rattle.naga_valid.proofs.IsWithinLemmas.{IsWithin-first, IsWithin-rest}

module _ (limits : Limits) (ctx : GlobalCtx) (overrides : limits.overrides ≡ length ctx.overrides.now) where
  IsKnownSize-pending : (length : ArraySize) → AreWithin limits (option_to_list (option_map reference.Override (pending_of length))) → IsKnownSize ctx length
  IsKnownSize-pending (size.Constant count) all = tt
  IsKnownSize-pending (size.Pending handle) all = subst (λ n. handle < n) overrides (IsWithin-first limits (reference.Override handle) [] all)
  IsKnownSize-pending size.Dynamic all = tt

  -- the type contains its base, and the override of the size if there is one
  IsKnownSize-base : (base : ℕ) (found length : ArraySize) → ◌≡◌ {A = Option ArraySize} (Some found) (Some length) → AreWithin limits (reference.«Type» base ∷ option_to_list (option_map reference.Override (pending_of found))) → IsKnownSize ctx length
  IsKnownSize-base base found length is all =
      let pending = IsWithin-rest limits (reference.«Type» base) (option_to_list (option_map reference.Override (pending_of found))) all in
      subst (IsKnownSize ctx) (same_Some found length is) (IsKnownSize-pending found pending)

  IsKnownSize-inner : (inner : TypeInner) (length : ArraySize) → size_of inner ≡ Some length → AreWithin limits (references_of_inner inner) → IsKnownSize ctx length
  IsKnownSize-inner (Array base found stride) length is all = IsKnownSize-base base found length is all
  IsKnownSize-inner (BindingArray base found) length is all = IsKnownSize-base base found length is all
  IsKnownSize-inner _ length is all = absurd (none-some length is)

module _ (whole : the_module.Module) (valid : HandlesAreValid whole) (ctx : GlobalCtx) (is : IsContextOf whole ctx) where
  type_limits : ℕ → Limits
  type_limits index = record (lengths whole) { types = index }

  pub IsKnownSize-valid : (handle : ℕ) (type : NamedType) (size : ArraySize) → value_at whole.types handle ≡ Some type → size_of type.inner ≡ Some size → IsKnownSize ctx size
  unfolding type_limits
  IsKnownSize-valid handle type size found has =
      IsKnownSize-inner (type_limits handle) ctx (subst (λ arena. length whole.overrides ≡ length arena) (sym is.overrides) refl) type.inner size has
      (EachIsWithin-at references_of_type type_limits (values whole.types) (HandlesAreValid-types whole valid) handle type found)
