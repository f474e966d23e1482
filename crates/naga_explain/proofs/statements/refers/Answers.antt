use Rattle.std.proofs.Common.{◌≡◌, ◌∙◌, ◌∷◌, [], rules, refl, subst}
use Rattle.std.specs.List.{Contains}
use Rattle.std.specs.Prelude.{All}
use Rattle.std.proofs.lemmas.List.Elements.{All-contains}
use Rattle.naga_valid.specs.Statements.{references_of_statement}
use Rattle.naga_valid.proofs.IsRestLemmas.{IsRest-end, IsRest-first, IsRest-itself, IsRest-next}
use Rattle.naga_explain.proofs.statements.refers.Goals as goal

pub references-init : goal.references-init
references-init c =
    IsRest-itself (λ other. ¬ (other ≡ c.args.reference.now)) _ _ (c.into_iter-other-iterator.ensures.into_iter_gives ∙ c.references_of-other-items.ensures)

pub returns-then-eq : goal.returns-then-eq
returns-then-eq c =
    let is : c.references.other-iterator ≡ c.in-Some.other ∷ c.next.new.self = c.in-Some.ensures.steps in
    let same : c.in-Some.other ≡ c.args.reference.now = search rules in
    let here : Contains (references_of_statement c.args.statement.now) c.in-Some.other = IsRest-first (λ other. ¬ (other ≡ c.args.reference.now)) _ _ _ _ is c.references.invariant in
    (λ _. subst (Contains (references_of_statement c.args.statement.now)) same here, λ _. search rules)

pub references-preserved : goal.references-preserved
references-preserved c =
    let is : c.references.other-iterator ≡ c.in-Some.other ∷ c.next.new.self = c.in-Some.ensures.steps in
    let other : ¬ (c.in-Some.other ≡ c.args.reference.now) = search rules in
    IsRest-next (λ other. ¬ (other ≡ c.args.reference.now)) _ _ _ _ is c.references.invariant other

pub returns : goal.returns
returns c =
    let is : c.references.other-iterator ≡ [] = search rules in
    let all : All (λ other. ¬ (other ≡ c.args.reference.now)) (references_of_statement c.args.statement.now) = IsRest-end (λ other. ¬ (other ≡ c.args.reference.now)) _ _ is c.references.invariant in
    (λ found. search (rules, found), λ inside. absurd (All-contains (λ other. ¬ (other ≡ c.args.reference.now)) _ _ all inside refl))
