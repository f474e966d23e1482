use Rattle.std.proofs.Common.{◌≡◌, ℕ, inl, inr, List, [], ◌∷◌, refl, arith, Some}
use Rattle.std.proofs.lemmas.List.Elements.{All-cons, All-head, All-nil, All-tail}
use Rattle.naga_ir.specs.declared.statement.Statement.{Store}
use Rattle.naga_runs.specs.Runs.{nothing, goes_on, stops, meets, jumps, accepts, loops, no_turn, again, whole, not_asked}
use Rattle.naga_flow.specs.Documented.{only_first_ready}
use Rattle.naga_flow.specs.Events.{branched, met}
use Rattle.naga_flow.specs.Uses.{IsKnown, MayUse, MayUseEach, PlainUsesKnown}
use Rattle.naga_flow.specs.declared.evaluation.Evaluation.TheVariants as by
use Rattle.naga_flow.proofs.laws.a_continuing_block_does_not_inherit_all.Goals as goal

-- what a use of an expression reads, if it is no place
single : (known : List ℕ) (x : ℕ) → IsKnown only_first_ready known x → MayUse only_first_ready known x
single known x h = All-cons (IsKnown only_first_ready known) x [] h (All-nil (IsKnown only_first_ready known))

none : (known : List ℕ) → MayUseEach only_first_ready known []
none known = All-nil (MayUse only_first_ready known)

pub returns-clause-passes : goal.returns-clause-passes
returns-clause-passes c = (
  tt,
  (
    (
      (tt, (single [] 0 (inl refl), (tt, tt), tt)),
      record { used = none []; operands = (none [], tt); evaluated = All-cons (λ h. only_first_ready.evaluation h ≡ Some by.Emit) 1 [] refl (All-nil (λ h. only_first_ready.evaluation h ≡ Some by.Emit)) },
    ),
    (
      tt,
      record {
        used = All-cons (MayUse only_first_ready (1 ∷ [])) 0 (1 ∷ []) (single (1 ∷ []) 0 (inl refl))
            (All-cons (MayUse only_first_ready (1 ∷ [])) 1 [] (single (1 ∷ []) 1 (inr (0, omega arith, refl))) (none (1 ∷ [])));
        operands = tt;
        evaluated = All-nil (λ h. only_first_ready.evaluation h ≡ Some by.Emit);
      },
    ),
    none (1 ∷ []),
  ),
)

unknown : IsKnown only_first_ready [] 1 → ⊥
unknown (inl e) = let q : Some by.Emit ≡ Some by.Ready = e in cc
unknown (inr has) = omega (arith, has.1)

-- the store uses expression 1
store_unknown : PlainUsesKnown only_first_ready [] (Store 0 1) → ⊥
store_unknown h =
    let second : MayUse only_first_ready [] 1 =
    All-head (MayUse only_first_ready []) 1 [] (All-tail (MayUse only_first_ready []) 0 (1 ∷ []) h.used) in
    unknown (All-head (IsKnown only_first_ready []) 1 [] second)

pub returns-clause-goes_wrong : goal.returns-clause-goes_wrong
returns-clause-goes_wrong c = (
  _,
  goes_on nothing refl (loops (again (whole (stops (goes_on nothing refl (accepts (goes_on nothing refl jumps))) (λ q. cc)) (inr refl) (goes_on nothing refl meets) (inl refl) not_asked) refl no_turn)),
  λ h. store_unknown (h (branched 0 ∷ []) [] (met (Store 0 1)) refl),
)

pub returns-clause-is_refused : goal.returns-clause-is_refused
returns-clause-is_refused c h = store_unknown h.1.1.1
