use Rattle.std.specs.List.{flat_map}
use Rattle.naga_valid.specs.Places.{references_of_entry_point}
use Rattle.naga_compact.specs.Module.References.{references_of_function, references_of_whole_entry_point}
use Rattle.naga_compact.specs.Module.Visits.{visit, visits}
use Rattle.naga_compact.proofs.FoldLemmas.{fold-at, fold-past, fold-then}
use Rattle.naga_compact.proofs.module.roots.visit_entry_points.Goals as goal

pub loop-entry_point-preserved : goal.loop-entry_point-preserved
loop-entry_point-preserved c =
    fold-at visit references_of_whole_entry_point c.loop-entry_point.tracer c.visit_function.new.tracer (visits c.args.tracer.now (flat_map references_of_whole_entry_point c.args.entry_points.now)) c.args.entry_points.now c.loop-entry_point.entry_point-index c.entry_point-item.result c.loop-entry_point-test.true c.entry_point-item.is c.loop-entry_point.invariant
    (fold-then visit c.loop-entry_point.tracer c.visit_entry_point.new.tracer c.visit_function.new.tracer (references_of_entry_point c.entry_point-item.result) (references_of_function c.entry_point-item.result.function) c.visit_entry_point.ensures c.visit_function.ensures)

pub returns : goal.returns
returns c =
    fold-past visit references_of_whole_entry_point c.loop-entry_point.tracer (visits c.args.tracer.now (flat_map references_of_whole_entry_point c.args.entry_points.now)) c.args.entry_points.now c.loop-entry_point.entry_point-index c.loop-entry_point-test.false c.loop-entry_point.invariant
