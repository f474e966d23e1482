use Rattle.std.proofs.Common.{◌≡◌, drop}
use Rattle.std.specs.List.{flat_map}
use Rattle.naga_compact.specs.Module.References.{references_of_whole_entry_point}
use Rattle.naga_compact.specs.Module.Visits.{visits}
use Rattle.naga_compact.proofs.module.roots.visit_entry_points.Given as goal

abbrev pub invariant-loop-entry_point : goal.invariant-loop-entry_point
invariant-loop-entry_point l =
    visits l.tracer (flat_map references_of_whole_entry_point (drop l.entry_point-index l.entry_points)) ≡ visits l.initial.tracer (flat_map references_of_whole_entry_point l.entry_points)
