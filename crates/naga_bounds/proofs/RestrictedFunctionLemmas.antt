-- What holds of a function that was restricted: its accesses fit, and it passes both checks.
use Rattle.std.proofs.Common.{◌≡◌, ◌<◌, ◌≤◌, [], arith, length, refl, subst, sym, inl, inr, ℕ}
use Rattle.naga_ir.specs.View.{tree_of}
use Rattle.naga_ir.specs.declared.module.Function as function
use Rattle.naga_ir.specs.declared.module.Module as the_module
use Rattle.naga_valid.specs.Functions.{FunctionIsWithin}
use Rattle.naga_valid.specs.Limits.{IsWithin}
use Rattle.naga_valid.specs.Places.{lengths, limits_inside}
use Rattle.naga_valid.specs.declared.place.Part.TheVariants as part
use Rattle.naga_flow.specs.Scopes.{EvaluatedOnce}
use Rattle.naga_flow.specs.Uses.{UsesKnown}
use Rattle.naga_flow.proofs.IncludesLemmas.{Includes-itself}
use Rattle.naga_compact.specs.Operands.{OperandsPrecede}
use Rattle.naga_bounds.specs.Modules.{AccessesFitIn, typed_in}
use Rattle.naga_bounds.specs.Restricted.{IsClamped}
use Rattle.naga_bounds.specs.RestrictedModules.{IsEmitted, IsTyped, RestrictsIn, counts_in, emitted_of}
use Rattle.naga_bounds.proofs.ComesFromLemmas.{comes-nothing, tree-once}
use Rattle.naga_bounds.proofs.IsTypedLemmas.{fixed-positive}
use Rattle.naga_bounds.proofs.KeepsTypesLemmas.{contents-kept, typed-kept}
use Rattle.naga_bounds.proofs.KeepsUsesLemmas.{follows, tree-uses}
use Rattle.naga_bounds.proofs.MadePrecedesLemmas.{made-precedes}
use Rattle.naga_bounds.proofs.RestrictedFitsLemmas.{restricted-fits}

module _ (whole : the_module.Module) (old new : function.Function) (precede : OperandsPrecede old.expressions) where
  pub clamped-precede : IsClamped (counts_in whole) (typed_in whole old) old new → OperandsPrecede new.expressions
  clamped-precede clamped =
      subst OperandsPrecede (sym clamped.changed_to.expressions)
      (made-precedes (counts_in whole) (typed_in whole old) clamped.changes clamped.planned precede)

  pub clamped-fit : IsTyped whole old → IsClamped (counts_in whole) (typed_in whole old) old new → AccessesFitIn whole new
  clamped-fit typed clamped =
      restricted-fits (counts_in whole) (typed_in whole old) (typed_in whole new) clamped.changes clamped.planned precede clamped.changed_to.expressions refl
      (contents-kept whole old new precede typed clamped)
      (fixed-positive whole old typed)

  module _ (functions : ℕ) (within : FunctionIsWithin (record (lengths whole) { functions = functions }) old) where
    pub clamped-emitted : IsTyped whole old → IsClamped (counts_in whole) (typed_in whole old) old new → IsEmitted whole old → IsEmitted whole new
    clamped-emitted typed clamped emitted =
        let counts = counts_in whole in
        let code = typed_in whole old in
        let code' = typed_in whole new in
        let changes = clamped.changes in
        let keeps = contents-kept whole old new precede typed clamped in
        let is_within = IsWithin (limits_inside (record (lengths whole) { functions = functions }) old) in
        let arena_is = clamped.changed_to.expressions in
        let all : length changes ≡ length old.expressions = clamped.planned.all in (
          subst (UsesKnown (emitted_of whole new) []) (sym clamped.changed_to.body)
              (tree-uses counts code code' changes clamped.planned precede arena_is refl keeps is_within (λ handle h. h) (λ first past h. h)
              (emitted_of whole old) (emitted_of whole new) (follows counts code code' changes clamped.planned precede arena_is refl keeps)
              (tree_of old.body) [] [] (within part.Body) Includes-itself emitted.0),
          subst (EvaluatedOnce []) (sym clamped.changed_to.body)
              (tree-once changes is_within
              (λ handle h. let less : handle < length old.expressions = h in omega (arith, all, less))
              (λ first past h. (h.0, (let less : past ≤ length old.expressions = h.1 in omega (arith, all, less))))
              (tree_of old.body) [] [] (within part.Body) (comes-nothing changes) emitted.1),
        )

  -- ---- a function that was restricted

  module _ (restricts : RestrictsIn whole old new) where
    pub restricted-precede : OperandsPrecede new.expressions
    restricted-precede = elim restricts.restricts [
      | inl same ↦ subst (λ (given : function.Function). OperandsPrecede given.expressions) (sym same.1) precede
      | inr clamped ↦ clamped-precede clamped
    ]

    pub restricted-fit : AccessesFitIn whole new
    restricted-fit = elim restricts.restricts [
      | inl same ↦ subst (AccessesFitIn whole) (sym same.1) same.0
      | inr clamped ↦ clamped-fit restricts.typed clamped
    ]

    pub restricted-typed : IsTyped whole new
    restricted-typed = elim restricts.restricts [
      | inl same ↦ subst (IsTyped whole) (sym same.1) restricts.typed
      | inr clamped ↦ typed-kept whole old new precede restricts.typed clamped
    ]

    module _ (functions : ℕ) (within : FunctionIsWithin (record (lengths whole) { functions = functions }) old) where
      pub restricted-emitted : IsEmitted whole new
      restricted-emitted = elim restricts.restricts [
        | inl same ↦ subst (IsEmitted whole) (sym same.1) restricts.emitted
        | inr clamped ↦ clamped-emitted functions within restricts.typed clamped restricts.emitted
      ]

      -- it passes both checks, and nothing of it has to change
      pub restricted-again : RestrictsIn whole new new
      restricted-again = record { typed = restricted-typed; emitted = restricted-emitted; restricts = inl (restricted-fit, refl) }

    -- what fits stays as it is
    pub restricted-stays : (again : function.Function) → RestrictsIn whole new again → again ≡ new
    restricted-stays again second = elim second.restricts [
      | inl same ↦ same.1
      | inr clamped ↦ absurd (clamped.some_misfits restricted-fit)
    ]
