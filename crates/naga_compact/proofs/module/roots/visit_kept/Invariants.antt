use Rattle.std.proofs.Common.{◌≡◌}
use Rattle.std.specs.List.{filter_map}
use Rattle.naga_compact.specs.Module.Used.{element_if}
use Rattle.naga_compact.specs.Module.Visits.{visits}
use Rattle.naga_compact.proofs.module.roots.visit_kept.Given as goal

abbrev pub invariant-loop-handle : goal.invariant-loop-handle
invariant-loop-handle g l =
    visits l.tracer (filter_map (element_if g.T.Declaration.element (g.T.Declaration.keeps l.fn.types)) l.handle-iterator)
    ≡ visits l.fn.tracer (filter_map (element_if g.T.Declaration.element (g.T.Declaration.keeps l.fn.types)) l.fn.elements)
