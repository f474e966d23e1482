use Rattle.std.proofs.Common.{subst, refl, List}
use Rattle.std.proofs.lemmas.Bool.{false≢true}
use Rattle.std.specs.ControlFlow.{MatchControlFlow}
use Rattle.naga_valid.specs.Expressions.{references_of_expression}
use Rattle.naga_valid.specs.declared.reference.Reference.{Reference}
use Rattle.naga_compact.specs.declared.precede.Below.{Below}
use Rattle.naga_compact.proofs.AreBelowLemmas.{AreBelow, AreVisited-below}
use Rattle.naga_compact.proofs.precede.are_below.Goals as goal

pub returns-in-Continue : goal.returns-in-Continue
returns-in-Continue c =
    let references : List Reference = references_of_expression c.args.expression.now in
    let found = subst (λ answer. MatchControlFlow answer (λ _. AreBelow c.args.index references) (λ _. ¬ AreBelow c.args.index references)) c.in-Continue.is
    (AreVisited-below (λ (below : Below). below.index) (record { index = c.args.index }) references c.visit_references.result c.visit_references.new.visitor c.visit_references.ensures.visited)
    in
    (λ yes. found, λ all. refl)

pub returns-in-Break : goal.returns-in-Break
returns-in-Break c =
    let references : List Reference = references_of_expression c.args.expression.now in
    let found = subst (λ answer. MatchControlFlow answer (λ _. AreBelow c.args.index references) (λ _. ¬ AreBelow c.args.index references)) c.in-Break.is
    (AreVisited-below (λ (below : Below). below.index) (record { index = c.args.index }) references c.visit_references.result c.visit_references.new.visitor c.visit_references.ensures.visited)
    in
    (λ no. absurd (false≢true no), λ all. absurd (found all))
