use Rattle.std.proofs.Common.{refl, inl, inr, [], ◌∷◌, arith}
use Rattle.std.proofs.lemmas.List.Elements.{All-head}
use Rattle.naga_flow.specs.Uses.{IsKnown, MayUse, expressions_in}
use Rattle.naga_meaning.specs.Duplicates.{doubled_expressions}
use Rattle.naga_meaning.specs.Examples.{arena_of}
use Rattle.naga_meaning.proofs.EvaluatesNewLemmas.{not-contained}
use Rattle.naga_meaning.proofs.laws.redirecting.duplicates_are_judged.Goals as goal

pub returns-clause-new : goal.returns-clause-new
returns-clause-new g =
    ((((tt, (not-contained [] 2 refl, (not-contained (2 ∷ []) 3 refl, tt))), tt), (not-contained (2 ∷ 3 ∷ []) 4 refl, (not-contained (4 ∷ 2 ∷ 3 ∷ []) 5 refl, tt))), tt)

pub returns-clause-not_new : goal.returns-clause-not_new
returns-clause-not_new g = λ h. h.0.0.1.0 (0, omega arith, refl)

pub returns-clause-not_known : goal.returns-clause-not_known
returns-clause-not_known g =
    λ h.
    let ex = expressions_in (arena_of doubled_expressions) in
    let known = 2 ∷ 5 ∷ [] in
    elim (All-head (IsKnown ex known) 3 [] (All-head (MayUse ex known) 3 [] h.1)) [ inl ready ↦ cc | inr inside ↦ not-contained known 3 refl inside ]
