use Rattle.naga_valid.specs.Limits.{AreWithin}
use Rattle.naga_valid.proofs.IsRestLemmas.{IsRest}
use Rattle.naga_valid.proofs.handles.elements.first_element_outside.Given as goal

abbrev pub invariant-loop-handle : goal.invariant-loop-handle
invariant-loop-handle g l =
    IsRest (λ entry. AreWithin (g.T.Element.limits_for l.limits entry.0) (g.T.Refers.references entry.1)) l.handle-iterator l.fn.elements
