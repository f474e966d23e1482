use Rattle.std.proofs.Common.{◌≡◌, length, map}
use Rattle.naga_compact.specs.Module.References.{as_global}
use Rattle.naga_compact.specs.Module.Visits.{visits}
use Rattle.naga_compact.proofs.module.elements.visit_each_global.Given as goal

-- the handles that are left are still to be visited
abbrev pub invariant-references : goal.invariant-references
invariant-references l = visits l.tracer (map as_global l.references) ≡ visits l.initial.tracer (map as_global l.initial.references)

abbrev pub decreases-references : goal.decreases-references
decreases-references l = length l.references
