use Rattle.std.proofs.Common.{◌≡◌, drop}
use Rattle.std.specs.List.{flat_map}
use Rattle.naga_valid.specs.Declarations.{references_of_local_variable}
use Rattle.naga_compact.specs.Module.Visits.{visits}
use Rattle.naga_compact.proofs.module.function.visit_local_variables.Given as goal

abbrev pub invariant-loop-variable : goal.invariant-loop-variable
invariant-loop-variable l =
    visits l.tracer (flat_map references_of_local_variable (drop l.variable-index l.variables)) ≡ visits l.initial.tracer (flat_map references_of_local_variable l.variables)
