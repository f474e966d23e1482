-- The first fault of a module, step by step.
use Rattle.std.proofs.Common.{◌≡◌, ℕ, List, [], Option, Some, None, Result, Ok, Err, MatchResult, length, refl, ap, sym, subst, ◌∙◌}
use Rattle.std.specs.Option.{option_or}
use Rattle.naga_arena.specs.Arena.{value_at, values}
use Rattle.naga_arena.specs.declared.span.Span.{Span}
use Rattle.naga_ir.specs.declared.global_ctx.GlobalCtx.{GlobalCtx}
use Rattle.naga_ir.specs.declared.module.GlobalVariable.{GlobalVariable}
use Rattle.naga_ir.specs.declared.module.Module as the_module
use Rattle.naga_ir.specs.declared.types.«Type».{«Type» as NamedType}
use Rattle.naga_ir.specs.declared.types.TypeInner.{TypeInner}
use Rattle.naga_ir.specs.declared.types.TypeInner.TheVariants.{Array}
use Rattle.naga_valid.specs.Contexts.{IsContextOf, size_of}
use Rattle.naga_valid.specs.Valid.{HandlesAreValid}
use Rattle.naga_valid.proofs.IsClosedOverLemmas.{IsClosedOver-global}
use Rattle.naga_valid.proofs.IsKnownSizeLemmas.{IsKnownSize-valid}
use Rattle.naga_layouter.specs.Check.{FirstFaultIs, IsFaultOf, IsInvalid, fault_after, fault_of_parts, invalid_of, layout_fault, member_of}
use Rattle.naga_layouter.specs.Faults.{types_fault}
use Rattle.naga_layouter.specs.Layout.{IsKnownType, IsStopped, IsStoppedBy, SizesAreKnown, laying}
use Rattle.naga_layouter.specs.Spaces.{all_space_faults, variables_fault}
use Rattle.naga_layouter.specs.declared.layouter.TypeLayout.{TypeLayout}
use Rattle.naga_layouter.specs.declared.layout_error.LayoutError.{LayoutError}
use Rattle.naga_layouter.specs.declared.layout_error.LayoutErrorInner.{LayoutErrorInner}
use Rattle.naga_layouter.specs.declared.layout_error.LayoutErrorInner.TheVariants.{InvalidArrayElementType, InvalidStructMemberType, NonPowerOfTwoWidth, TooLarge}
use Rattle.naga_layouter.specs.declared.layout_error.LayoutErrorInner.TheVariants as lack
use Rattle.naga_layouter.specs.declared.layout_fault.InvalidLayouts.{InvalidLayouts}
use Rattle.naga_layouter.specs.declared.layout_fault.InvalidLayouts.TheVariants.{Memory, Fault}
use Rattle.naga_layouter.specs.declared.layout_fault.LayoutCause.TheVariants.{NoLayout}
use Rattle.naga_layouter.specs.declared.layout_fault.LayoutFault.{LayoutFault}

-- ---- contexts

-- the override of the size of a type of the module is in its context
known-type : (whole : the_module.Module) → HandlesAreValid whole → (ctx : GlobalCtx) → IsContextOf whole ctx
    → (handle : ℕ) (type : NamedType) → value_at whole.types handle ≡ Some type → (inner : TypeInner) → type.inner ≡ inner
    → IsKnownType ctx inner
known-type whole valid ctx context handle type is (Array base size stride) same =
    IsKnownSize-valid whole valid ctx context handle type size is (ap (λ (i : TypeInner). size_of i) same)
known-type whole valid ctx context handle type is _ same = tt

-- the context of a module whose handles are valid has what sizes need
pub sizes-known : (whole : the_module.Module) → HandlesAreValid whole → (ctx : GlobalCtx) → IsContextOf whole ctx → SizesAreKnown ctx
sizes-known whole valid ctx context = record {
  known = λ handle type is.
      known-type whole valid ctx context handle type
      (subst (λ (types : List (NamedType × Span)). value_at types handle ≡ Some type) context.types is) type.inner refl;
  closed = IsClosedOver-global whole valid ctx context;
}

-- ---- faults

module _ (ctx : GlobalCtx) (variables : List (GlobalVariable × Span)) where
  abbrev after : List TypeLayout × Option LayoutErrorInner → Option LayoutFault
  after laid = fault_after ctx.types.now variables laid.0 laid.1

  -- a type has no layout
  stopped : (new : List TypeLayout) (ty : ℕ) (error : LayoutErrorInner) → ty ≡ length new
      → laying ctx [] (values ctx.types.now) ≡ (new, Some error)
      → layout_fault ctx variables ≡ Some (record { ty = ty; member = member_of error; cause = NoLayout error })
  stopped new ty error at is =
      let make : ℕ → Option LayoutFault = λ k. Some (record { ty = k; member = member_of error; cause = NoLayout error }) in
      ap after is ∙ ap make (sym at)

  pub stopped-invalid : (new : List TypeLayout) (ty : ℕ) (error : LayoutErrorInner) → ty ≡ length new
      → IsStoppedBy ctx [] (values ctx.types.now) error new
      → IsFaultOf (layout_fault ctx variables) (invalid_of (record { ty = ty; inner = error }))
  stopped-invalid new ty lack.Memory at is = tt
  stopped-invalid new ty (InvalidArrayElementType base) at is = stopped new ty (InvalidArrayElementType base) at is
  stopped-invalid new ty (InvalidStructMemberType index member) at is = stopped new ty (InvalidStructMemberType index member) at is
  stopped-invalid new ty NonPowerOfTwoWidth at is = stopped new ty NonPowerOfTwoWidth at is
  stopped-invalid new ty TooLarge at is = stopped new ty TooLarge at is

  -- the error of a layouter that started without layouts
  pub error-invalid : (new : List TypeLayout) (error : LayoutError) (invalid : InvalidLayouts)
      → IsStopped ctx [] (values ctx.types.now) error new → invalid ≡ invalid_of error → IsFaultOf (layout_fault ctx variables) invalid
  error-invalid new error invalid is same =
      subst (λ (i : InvalidLayouts). IsFaultOf (layout_fault ctx variables) i) (sym same) (stopped-invalid new error.ty error.inner is.0 is.1)

  -- all types have layouts
  laid-parts : (known : List TypeLayout) → laying ctx [] (values ctx.types.now) ≡ (known, None)
      → layout_fault ctx variables ≡ fault_of_parts ctx.types.now variables known
  laid-parts known is = ap after is

  -- a type has a fault
  pub types-invalid : (known : List TypeLayout) (fault : LayoutFault) → laying ctx [] (values ctx.types.now) ≡ (known, None)
      → types_fault ctx.types.now known 0 (values ctx.types.now) ≡ Some fault → layout_fault ctx variables ≡ Some fault
  types-invalid known fault is found =
      laid-parts known is
      ∙ ap (λ (o : Option LayoutFault). option_or o (variables_fault (all_space_faults ctx.types.now [] (values ctx.types.now)) (values variables))) found

  abbrev of-variables : Option LayoutFault
  of-variables = variables_fault (all_space_faults ctx.types.now [] (values ctx.types.now)) (values variables)

  -- no type has a fault, so that of the variables is the first
  pub variables-checked : {T : Type 0} (known : List TypeLayout) (result : Result T InvalidLayouts)
      → laying ctx [] (values ctx.types.now) ≡ (known, None) → types_fault ctx.types.now known 0 (values ctx.types.now) ≡ None
      → MatchResult result (λ _. of-variables ≡ None) (λ invalid. IsFaultOf of-variables invalid)
      → MatchResult result (λ _. layout_fault ctx variables ≡ None) (λ invalid. IsFaultOf (layout_fault ctx variables) invalid)
  variables-checked known result is none found =
      let same : layout_fault ctx variables ≡ of-variables =
      laid-parts known is ∙ ap (λ (o : Option LayoutFault). option_or o of-variables) none in
      subst (λ (o : Option LayoutFault). MatchResult result (λ _. o ≡ None) (λ invalid. IsFaultOf o invalid)) (sym same) found

-- what was found in the context of a module
pub checked : {T : Type 0} (whole : the_module.Module) (ctx : GlobalCtx) (result : Result T InvalidLayouts) → IsContextOf whole ctx
    → MatchResult result (λ _. layout_fault ctx whole.global_variables ≡ None) (λ invalid. IsFaultOf (layout_fault ctx whole.global_variables) invalid)
    → MatchResult result (λ _. FirstFaultIs whole None) (λ invalid. IsInvalid whole invalid)
checked whole ctx (Ok done) context found = (ctx, context, found)
checked whole ctx (Err Memory) context found = tt
checked whole ctx (Err (Fault fault)) context found = (ctx, context, found)
