-- Visitors that stop at a reference that is not within limits.
use Rattle.std.proofs.Common.{arith, sym, subst, refl, inl, inr, List, [], ◌∷◌}
use Rattle.std.specs.ControlFlow.{MatchControlFlow}
use Rattle.std.specs.declared.ops.ControlFlow.{ControlFlow}
use Rattle.std.specs.declared.ops.ControlFlow.TheVariants.{Break, Continue}
use Rattle.std.specs.List.{Contains}
use Rattle.std.proofs.lemmas.List.Elements.{All-cons, All-nil, Contains-append_right}
use Rattle.naga_valid.specs.Limits.{AreWithin, IsWithin}
use Rattle.naga_valid.specs.Visits.{AreVisited, limits_of, tests}
use Rattle.naga_valid.specs.declared.limits.Limits.{Limits}
use Rattle.naga_valid.specs.declared.limits.Outside.{Outside}
use Rattle.naga_valid.specs.declared.reference.Reference.{Reference}

-- what was found is a reference of the list, and not within the limits
abbrev pub IsFound : Limits → List Reference → Reference → Type 0
IsFound limits list to = Contains list to × ¬ IsWithin limits to

module _ (limits : Limits) (to : Reference) (others : List Reference) (within : IsWithin limits to) where
  tests-later : (answer : ControlFlow Reference (Unit {0})) → MatchControlFlow answer (λ _. AreWithin limits others) (IsFound limits others) → MatchControlFlow answer (λ _. AreWithin limits (to ∷ others)) (IsFound limits (to ∷ others))
  tests-later (Continue _) all = All-cons (IsWithin limits) to others within all
  tests-later (Break stop) found = (Contains-append_right (to ∷ []) others stop found.0, found.1)

pub tests-finds : (old : Outside) (list : List Reference) (answer : ControlFlow Reference (Unit {0})) (new : Outside) → AreVisited tests old list answer new → MatchControlFlow answer (λ _. AreWithin (limits_of old) list) (IsFound (limits_of old) list)
tests-finds old [] answer new visited =
    subst (λ a. MatchControlFlow a (λ _. AreWithin (limits_of old) []) (IsFound (limits_of old) [])) (sym visited.0) (All-nil (IsWithin (limits_of old)))
tests-finds old (to ∷ others) answer new (inl (stop, is, (same, (found, outside)))) =
    subst (λ a. MatchControlFlow a (λ _. AreWithin (limits_of old) (to ∷ others)) (IsFound (limits_of old) (to ∷ others))) (sym is)
    (subst (IsFound (limits_of old) (to ∷ others)) (sym found) ((0, omega arith, refl), outside))
tests-finds old (to ∷ others) answer new (inr (next, (same, within), visited)) =
    tests-later (limits_of old) to others within answer
    (subst (λ o. MatchControlFlow answer (λ _. AreWithin (limits_of o) others) (IsFound (limits_of o) others)) same (tests-finds next others answer new visited))
