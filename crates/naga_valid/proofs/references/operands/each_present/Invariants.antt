use Rattle.std.proofs.Common.{[], map, drop}
use Rattle.std.specs.Option.{option_map}
use Rattle.naga_valid.specs.Reference.{present_then}
use Rattle.naga_valid.proofs.AreVisitedLemmas.{Resumes}
use Rattle.naga_valid.proofs.references.operands.each_present.Given as goal

abbrev pub invariant-loop-element : goal.invariant-loop-element
invariant-loop-element g l =
    Resumes g.V.Visitor.visits l.fn.visitor (present_then (map (option_map g.T.HasReference.reference) l.fn.list) []) l.visitor (present_then (map (option_map g.T.HasReference.reference) (drop l.element-index l.list)) [])
