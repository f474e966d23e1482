use Rattle.std.proofs.Common.{◌≡◌, drop}
use Rattle.std.specs.List.{flat_map}
use Rattle.naga_valid.specs.Expressions.{references_of_expression}
use Rattle.naga_compact.specs.Module.Visits.{visits}
use Rattle.naga_compact.proofs.module.function.visit_expressions.Given as goal

abbrev pub invariant-loop-expression : goal.invariant-loop-expression
invariant-loop-expression l =
    visits l.tracer (flat_map references_of_expression (drop l.expression-index l.expressions)) ≡ visits l.initial.tracer (flat_map references_of_expression l.expressions)
