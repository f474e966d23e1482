-- By induction on the handles, each expression that stays has its type, renamed.
use Rattle.std.proofs.Common.{◌≡◌, ◌∙◌, sym, ap, subst, refl, ℕ, zero, suc, ◌<◌, Bool, true, Option, None, Some, arith}
use Rattle.std.specs.Prelude.{IfSome, option_and_then, option_map}
use Rattle.naga_ir.specs.declared.expression.Expression.{Expression}
use Rattle.naga_compact.specs.Renaming.{Renaming}
use Rattle.naga_compact.specs.derived.Renaming.{rename_expression}
use Rattle.naga_typifier.specs.Context.{Context}
use Rattle.naga_typifier.specs.Table.{type_of}
use Rattle.naga_typifier.specs.declared.resolution.TypeResolution.{TypeResolution}
use Rattle.naga_typing.specs.Arenas.{AreTypes, IsCompacted}
use Rattle.naga_typing.specs.Operands.{Depends}
use Rattle.naga_typing.specs.Renamed.{HasRenamed, IsKept, RenamesContext, TypesAreKept, rename_resolution}
use Rattle.naga_typing.proofs.DependsLemmas.{Depends-weaker}
use Rattle.naga_typing.proofs.KeptLemmas.{results-kept}
use Rattle.naga_typing.proofs.RenamedLemmas.{renamed-types}

module _ (r : Renaming) (kept stays : ℕ → Bool) (ctx new : Context) (is : RenamesContext r kept ctx new) (all : TypesAreKept kept ctx)
    (old renamed : ℕ → Option Expression) (compacted : IsCompacted r kept stays ctx new old renamed)
    (types after : ℕ → Option TypeResolution) (of_old : AreTypes ctx old types) (of_new : AreTypes new renamed after) where
  abbrev Has : ℕ → Type 0
  Has = HasRenamed r kept types after

  -- the new type, for what is found at the old handle
  new-type : (handle : ℕ) → stays handle ≡ true → (found : Option Expression) → old handle ≡ found → after (r.expressions handle) ≡ option_and_then (type_of new after) (option_map (rename_expression r) found)
  new-type handle stay found at =
      of_new (r.expressions handle) ∙ ap (option_and_then (type_of new after)) (compacted.found handle stay ∙ ap (option_map (rename_expression r)) at)

  old-type : (handle : ℕ) (found : Option Expression) → old handle ≡ found → types handle ≡ option_and_then (type_of ctx types) found
  old-type handle found at = of_old handle ∙ ap (option_and_then (type_of ctx types)) at

  at-found : (handle : ℕ) → stays handle ≡ true → (found : Option Expression) → old handle ≡ found → ((operand : ℕ) → operand < handle → stays operand ≡ true → Has operand) → Has handle
  at-found handle stay None at before = (
    new-type handle stay None at ∙ ap (option_map (rename_resolution r)) (sym (old-type handle None at)),
    subst (λ (ty : Option TypeResolution). IfSome ty (IsKept kept)) (sym (old-type handle None at)) tt,
  )
  at-found handle stay (Some expression) at before =
      let operands : Depends Has expression =
      Depends-weaker (λ operand. (operand < handle) × (stays operand ≡ true)) Has (λ operand so. before operand so.0 so.1) expression (compacted.operands handle expression stay at)
      in
      let operands_kept : Depends (λ (operand : ℕ). IfSome (types operand) (IsKept kept)) expression =
      Depends-weaker Has (λ operand. IfSome (types operand) (IsKept kept)) (λ operand so. so.1) expression operands
      in (
        new-type handle stay (Some expression) at
            ∙ renamed-types r kept ctx new is all.closed types after expression (compacted.names handle expression stay at) operands
            ∙ ap (option_map (rename_resolution r)) (sym (old-type handle (Some expression) at)),
        subst (λ (ty : Option TypeResolution). IfSome ty (IsKept kept)) (sym (old-type handle (Some expression) at))
            (results-kept kept ctx all types expression (compacted.names_kept handle expression stay at) operands_kept),
      )

  below : (limit handle : ℕ) → handle < limit → stays handle ≡ true → Has handle
  below zero handle less stay = absurd (omega (arith, less))
  below (suc limit) handle less stay =
      at-found handle stay (old handle) refl (λ operand before stay'. below limit operand (omega (arith, less, before)) stay')

  pub IsCompacted-types : (handle : ℕ) → stays handle ≡ true → HasRenamed r kept types after handle
  IsCompacted-types handle stay = below (suc handle) handle (omega arith) stay
