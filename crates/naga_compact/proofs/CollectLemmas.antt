-- What a visitor that never stops has collected.
use Rattle.std.proofs.Common.{◌≡◌, ◌∙◌, ap, subst, inl, inr, List, [], ◌∷◌}
use Rattle.std.specs.ControlFlow.{MatchControlFlow}
use Rattle.std.specs.List.{fold}
use Rattle.std.specs.declared.ops.ControlFlow.{ControlFlow}
use Rattle.std.specs.declared.ops.ControlFlow.TheVariants.{Break, Continue}
use Rattle.naga_valid.specs.Visits.{AreVisited, Step}
use Rattle.naga_valid.specs.declared.reference.Reference.{Reference}

module _ {Stop S : Type 0} (step : Step Stop S) (collected : S → Reference → S) (never_stops : (old new : S) (to : Reference) (answer : ControlFlow Stop (Unit {0})) → step old to answer new → (answer ≡ Continue tt) × (new ≡ collected old to)) where
  pub AreVisited-fold : (old : S) (list : List Reference) (answer : ControlFlow Stop (Unit {0})) (new : S) → AreVisited step old list answer new → new ≡ fold collected old list
  AreVisited-fold old [] answer new visited = visited.1
  AreVisited-fold old (to ∷ others) answer new (inl (stop, is, first)) =
      absurd (subst (λ a. MatchControlFlow a (λ _. ⊥) (λ _. Unit {0})) (never_stops old new to (Break stop) first).0 (tt {0}))
  AreVisited-fold old (to ∷ others) answer new (inr (next, first, rest)) =
      AreVisited-fold next others answer new rest ∙ ap (λ s. fold collected s others) (never_stops old next to (Continue tt) first).1
