use Rattle.std.proofs.Common.{subst}
use Rattle.std.specs.ControlFlow.{MatchControlFlow}
use Rattle.naga_valid.specs.Limits.{AreWithin}
use Rattle.naga_valid.specs.Visits.{limits_of}
use Rattle.naga_valid.proofs.TestsLemmas.{IsFound, tests-finds}
use Rattle.naga_valid.proofs.handles.lists.first_outside_before.Goals as goal

pub returns-in-Continue : goal.returns-in-Continue
returns-in-Continue g c =
    subst (λ limits. AreWithin limits (g.P.Refers.references c.args.part.now)) c.new.ensures
    (subst (λ answer. MatchControlFlow answer (λ _. AreWithin (limits_of c.new.result) (g.P.Refers.references c.args.part.now)) (IsFound (limits_of c.new.result) (g.P.Refers.references c.args.part.now))) c.in-Continue.is
    (tests-finds c.new.result (g.P.Refers.references c.args.part.now) c.visit_references.result c.visit_references.new.visitor c.visit_references.ensures.visited))

pub returns-in-Break : goal.returns-in-Break
returns-in-Break g c =
    subst (λ limits. IsFound limits (g.P.Refers.references c.args.part.now) c.in-Break.reference) c.new.ensures
    (subst (λ answer. MatchControlFlow answer (λ _. AreWithin (limits_of c.new.result) (g.P.Refers.references c.args.part.now)) (IsFound (limits_of c.new.result) (g.P.Refers.references c.args.part.now))) c.in-Break.is
    (tests-finds c.new.result (g.P.Refers.references c.args.part.now) c.visit_references.result c.visit_references.new.visitor c.visit_references.ensures.visited))
