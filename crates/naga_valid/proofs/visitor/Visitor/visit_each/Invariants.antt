use Rattle.std.proofs.Common.{map, drop}
use Rattle.naga_valid.proofs.AreVisitedLemmas.{Resumes}
use Rattle.naga_valid.proofs.visitor.Visitor.visit_each.Given as goal

abbrev pub invariant-loop-element : goal.invariant-loop-element
invariant-loop-element g l =
    Resumes g.Self.Visitor.visits l.fn.self (map g.T.HasReference.reference l.fn.list) l.self (map g.T.HasReference.reference (drop l.element-index l.list))
