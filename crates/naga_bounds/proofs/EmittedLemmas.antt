-- Chains of accesses by constant indices below fixed lengths are found again where these chains are given.
use Rattle.std.proofs.Common.{◌≡◌, ◌∙◌, ap, arith, refl, subst, sym, ℕ, zero, suc, ◌+◌, ◌<◌, Bool, true, false, List, Option, Some, None}
use Rattle.std.specs.Prelude.{IfSome, if◌then◌else◌, option_and_then}
use Rattle.naga_arena.specs.Arena.{value_at}
use Rattle.naga_ir.specs.Expression.{needs_pre_emit}
use Rattle.naga_ir.specs.declared.expression.Expression.{Expression}
use Rattle.naga_ir.specs.declared.expression.Expression.TheVariants.{AccessIndex}
use Rattle.naga_flow.specs.ConstantChains.{BasesPrecede}
use Rattle.naga_flow.specs.Places.{ready_in}
use Rattle.naga_flow.specs.Readings.{chosen_base, constant_base_of, constant_chains_in, emitted_in, expressions_by}
use Rattle.naga_flow.proofs.ConstantChainsLemmas.{constant_chains_in-base, constant_chains_in-last, constant_chains_in-ready, next-before}
use Rattle.naga_bounds.proofs.FixedAccessLemmas.{BasesPrecede-fixed}
use Rattle.naga_bounds.specs.Reach.{Typed, at_use, is_fixed_access}

-- what is ready is no access
ready-no_access : (found : Option Expression) → ready_in found ≡ true → option_and_then constant_base_of found ≡ None
ready-no_access None is = refl
ready-no_access (Some (AccessIndex base index)) is = cc
ready-no_access (Some _) is = refl

module _ (code : Typed) (chains : ℕ → Bool) (are : (handle : ℕ) → chains handle ≡ at_use code handle) where
  abbrev base_in : Bool → ℕ → Option ℕ
  base_in chosen handle = if chosen then option_and_then constant_base_of (value_at code.arena handle) else None

  abbrev fixed : ℕ → Option ℕ
  fixed = chosen_base (is_fixed_access code) code.arena

  abbrev again : ℕ → Option ℕ
  again = chosen_base chains code.arena

  -- a chain that is not ready has the same base
  same_base : (handle next : ℕ) → fixed handle ≡ Some next → chains handle ≡ true → again handle ≡ Some next
  same_base handle next is chain = go (is_fixed_access code handle) is
    where
      go : (chosen : Bool) → base_in chosen handle ≡ Some next → again handle ≡ Some next
      go true found = ap (λ it. base_in it handle) chain ∙ found
      go false found = cc

  -- the base of a chain comes before it
  precede : (count : ℕ) → BasesPrecede chains code.arena count
  precede count handle within = go (chains handle) refl
    where
      of_fixed : (base : Option ℕ) → fixed handle ≡ base → ready_in (value_at code.arena handle) ≡ false → chains handle ≡ true → IfSome (again handle) (λ some. some < handle)
      of_fixed None is other chain =
          let e : true ≡ false = sym chain ∙ are handle ∙ constant_chains_in-last (is_fixed_access code) code.arena handle other is in cc
      of_fixed (Some next) is other chain =
          subst (λ base. IfSome base (λ some. some < handle)) (sym (same_base handle next is chain))
          (next-before (is_fixed_access code) code.arena handle next (BasesPrecede-fixed code (handle + 1)) is)

      of_ready : (ready : Bool) → ready_in (value_at code.arena handle) ≡ ready → chains handle ≡ true → IfSome (again handle) (λ some. some < handle)
      of_ready true is chain =
          subst (λ base. IfSome base (λ some. some < handle))
          (sym (ap (λ it. base_in it handle) chain ∙ ready-no_access (value_at code.arena handle) is)) tt
      of_ready false is chain = of_fixed (fixed handle) refl is chain

      go : (chain : Bool) → chains handle ≡ chain → IfSome (again handle) (λ some. some < handle)
      go false is = subst (λ base. IfSome base (λ some. some < handle)) (sym (ap (λ it. base_in it handle) is)) tt
      go true is = of_ready (ready_in (value_at code.arena handle)) refl is

  -- the chains are the same
  same_below : (bound handle : ℕ) → handle < bound → constant_chains_in chains code.arena handle ≡ at_use code handle
  same_below zero handle within = absurd (omega (arith, within))
  same_below (suc bound) handle within =
      of_ready (λ next before. same_below bound next (omega (arith, before, within))) (ready_in (value_at code.arena handle)) refl
    where
      of_base : ((next : ℕ) → next < handle → constant_chains_in chains code.arena next ≡ at_use code next) → (base : Option ℕ) → fixed handle ≡ base
          → ready_in (value_at code.arena handle) ≡ false → (chain : Bool) → chains handle ≡ chain → constant_chains_in chains code.arena handle ≡ at_use code handle
      of_base earlier base is other false chain =
          constant_chains_in-last chains code.arena handle other (ap (λ it. base_in it handle) chain) ∙ sym chain ∙ are handle
      of_base earlier None is other true chain =
          let e : true ≡ false = sym chain ∙ are handle ∙ constant_chains_in-last (is_fixed_access code) code.arena handle other is in cc
      of_base earlier (Some next) is other true chain =
          let before = next-before (is_fixed_access code) code.arena handle next (BasesPrecede-fixed code (handle + 1)) is in
          constant_chains_in-base chains code.arena handle next (precede (handle + 1)) other (same_base handle next is chain)
          ∙ earlier next before
          ∙ sym (constant_chains_in-base (is_fixed_access code) code.arena handle next (BasesPrecede-fixed code (handle + 1)) other is)

      of_ready : ((next : ℕ) → next < handle → constant_chains_in chains code.arena next ≡ at_use code next) → (ready : Bool)
          → ready_in (value_at code.arena handle) ≡ ready → constant_chains_in chains code.arena handle ≡ at_use code handle
      of_ready earlier true is =
          constant_chains_in-ready chains code.arena handle is ∙ sym (constant_chains_in-ready (is_fixed_access code) code.arena handle is)
      of_ready earlier false is = of_base earlier (fixed handle) refl is (chains handle) refl

  -- so are the expressions, where a use reads what an `Emit` evaluated
  pub emitted_in-chains : emitted_in chains code.arena ≡ emitted_in (is_fixed_access code) code.arena
  emitted_in-chains = λ i. expressions_by (λ handle. same_below (handle + 1) handle (omega arith) i) code.arena
