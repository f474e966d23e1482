use Rattle.std.proofs.Common.{drop}
use Rattle.naga_valid.specs.Places.{global_overrides}
use Rattle.naga_valid.proofs.AreVisitedLemmas.{Resumes}
use Rattle.naga_valid.proofs.references.entry_point.ArrayOptionHandleExpression3Refers.visit_references.Given as goal

abbrev pub invariant-loop-expression : goal.invariant-loop-expression
invariant-loop-expression g l =
    Resumes g.V.Visitor.visits l.fn.visitor (global_overrides l.fn.self) l.visitor (global_overrides (drop l.expression-index l.self))
