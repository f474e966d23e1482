-- Access chains, from an access to its base.
use Rattle.std.proofs.Common.{◌≡◌, ◌∙◌, ◌<◌, ◌≤◌, ℕ, zero, suc, Bool, true, false, List, [], ◌∷◌, ◌++◌, Option, Some, None, refl, sym, ap, arith, option_to_list}
use Rattle.std.proofs.lemmas.Bool.Decides.{nat_tests}
use Rattle.std.specs.Prelude.{if◌then◌else◌, nat_lt, option_and_then}
use Rattle.naga_arena.specs.Arena.{value_at}
use Rattle.naga_arena.specs.declared.span.Span.{Span}
use Rattle.naga_ir.specs.Expression.{base_of}
use Rattle.naga_ir.specs.declared.expression.Expression.{Expression}
use Rattle.naga_flow.specs.Places.{base_before, end_of_chain, if_before, index_of, indices_of_chain, reads_in, ready_in}

-- the base comes before the access
pub if_before-less : (handle : ℕ) (base : Option ℕ) (found : ℕ) → if_before handle base ≡ Some found → found < handle
if_before-less handle None found is = absurd (cc)
if_before-less handle (Some base) found is = go (nat_lt base handle) refl is
  where
    go : (t : Bool) → nat_lt base handle ≡ t → (if t then Some base else None) ≡ Some found → found < handle
    go true test is = let same : base ≡ found = cc in let less : base < handle = grind (arith, nat_tests) in omega (arith, same, less)
    go false test is = absurd (cc)

module _ (arena : List (Expression × Span)) where
  pub base_before-less : (handle base : ℕ) → base_before arena handle ≡ Some base → base < handle
  base_before-less handle base is = if_before-less handle (option_and_then base_of (value_at arena handle)) base is

  -- the first access has no base before it
  first_has_none : (handle : ℕ) → handle ≤ 0 → (base : Option ℕ) → base_before arena handle ≡ base → base_before arena handle ≡ None
  first_has_none handle h None is = is
  first_has_none handle h (Some base) is = absurd (let less = base_before-less handle base is in omega (arith, h, less))

  end-stops : (steps handle : ℕ) → base_before arena handle ≡ None → end_of_chain arena steps handle ≡ handle
  end-stops zero handle is = refl
  end-stops (suc steps) handle is = ap (λ (found : Option ℕ). elim found as (λ _. ℕ) [ None ↦ handle | Some base ↦ end_of_chain arena steps base ]) is

  end-goes_on : (steps handle base : ℕ) → base_before arena handle ≡ Some base → end_of_chain arena (suc steps) handle ≡ end_of_chain arena steps base
  end-goes_on steps handle base is = ap (λ (found : Option ℕ). elim found as (λ _. ℕ) [ None ↦ handle | Some base ↦ end_of_chain arena steps base ]) is

  -- so many steps are enough
  end-enough : (steps more handle : ℕ) → handle ≤ steps → handle ≤ more → end_of_chain arena steps handle ≡ end_of_chain arena more handle
  end-enough zero more handle h k = sym (end-stops more handle (first_has_none handle h (base_before arena handle) refl))
  end-enough (suc steps) zero handle h k = end-stops (suc steps) handle (first_has_none handle k (base_before arena handle) refl)
  end-enough (suc steps) (suc more) handle h k =
      go (base_before arena handle) refl (λ base less. end-enough steps more base (omega (arith, less, h)) (omega (arith, less, k)))
    where
      go : (base : Option ℕ) → base_before arena handle ≡ base → ((base : ℕ) → base < handle → end_of_chain arena steps base ≡ end_of_chain arena more base) →
          end_of_chain arena (suc steps) handle ≡ end_of_chain arena (suc more) handle
      go None is later = end-stops (suc steps) handle is ∙ sym (end-stops (suc more) handle is)
      go (Some base) is later =
          end-goes_on steps handle base is ∙ (later base (base_before-less handle base is) ∙ sym (end-goes_on more handle base is))

  -- the chain from an access and the chain from its base have the same end
  pub end-next : (handle base : ℕ) → base_before arena handle ≡ Some base → end_of_chain arena handle handle ≡ end_of_chain arena base base
  end-next handle base is =
      let less = base_before-less handle base is in
      end-enough handle (suc handle) handle (omega arith) (omega arith) ∙ (end-goes_on handle handle base is ∙ end-enough handle base base (omega (arith, less)) (omega arith))

  pub end-last : (handle : ℕ) → base_before arena handle ≡ None → end_of_chain arena handle handle ≡ handle
  end-last handle is = end-stops handle handle is

  -- ---- indices

  abbrev pub at_access : ℕ → List ℕ → List ℕ
  at_access handle rest = option_to_list (option_and_then index_of (value_at arena handle)) ++ rest

  indices-stop : (steps handle : ℕ) → base_before arena handle ≡ None → indices_of_chain arena steps handle ≡ []
  indices-stop zero handle is = refl
  indices-stop (suc steps) handle is = ap (λ (found : Option ℕ). elim found as (λ _. List ℕ) [ None ↦ [] | Some base ↦ at_access handle (indices_of_chain arena steps base) ]) is

  indices-go_on : (steps handle base : ℕ) → base_before arena handle ≡ Some base → indices_of_chain arena (suc steps) handle ≡ at_access handle (indices_of_chain arena steps base)
  indices-go_on steps handle base is = ap (λ (found : Option ℕ). elim found as (λ _. List ℕ) [ None ↦ [] | Some base ↦ at_access handle (indices_of_chain arena steps base) ]) is

  indices-enough : (steps more handle : ℕ) → handle ≤ steps → handle ≤ more → indices_of_chain arena steps handle ≡ indices_of_chain arena more handle
  indices-enough zero more handle h k = sym (indices-stop more handle (first_has_none handle h (base_before arena handle) refl))
  indices-enough (suc steps) zero handle h k = indices-stop (suc steps) handle (first_has_none handle k (base_before arena handle) refl)
  indices-enough (suc steps) (suc more) handle h k =
      go (base_before arena handle) refl (λ base less. indices-enough steps more base (omega (arith, less, h)) (omega (arith, less, k)))
    where
      go : (base : Option ℕ) → base_before arena handle ≡ base → ((base : ℕ) → base < handle → indices_of_chain arena steps base ≡ indices_of_chain arena more base) →
          indices_of_chain arena (suc steps) handle ≡ indices_of_chain arena (suc more) handle
      go None is later = indices-stop (suc steps) handle is ∙ sym (indices-stop (suc more) handle is)
      go (Some base) is later =
          indices-go_on steps handle base is ∙ (ap (at_access handle) (later base (base_before-less handle base is)) ∙ sym (indices-go_on more handle base is))

  pub indices-next : (handle base : ℕ) → base_before arena handle ≡ Some base → indices_of_chain arena handle handle ≡ at_access handle (indices_of_chain arena base base)
  indices-next handle base is =
      let less = base_before-less handle base is in
      indices-enough handle (suc handle) handle (omega arith) (omega arith)
      ∙ (indices-go_on handle handle base is ∙ ap (at_access handle) (indices-enough handle base base (omega (arith, less)) (omega arith)))

  pub indices-last : (handle : ℕ) → base_before arena handle ≡ None → indices_of_chain arena handle handle ≡ []
  indices-last handle is = indices-stop handle handle is

  -- ---- reads

  pub reads_in-itself : (handle : ℕ) → ready_in (value_at arena (end_of_chain arena handle handle)) ≡ false → reads_in arena handle ≡ handle ∷ []
  reads_in-itself handle h = ap (λ is_place. if is_place then indices_of_chain arena handle handle else handle ∷ []) h
