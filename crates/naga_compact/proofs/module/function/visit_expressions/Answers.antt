use Rattle.std.proofs.Common.{◌∙◌, ap}
use Rattle.std.specs.List.{flat_map}
use Rattle.naga_valid.specs.Expressions.{references_of_expression}
use Rattle.naga_compact.specs.Module.Visits.{visit, visits}
use Rattle.naga_compact.proofs.FoldLemmas.{fold-at, fold-past}
use Rattle.naga_compact.proofs.module.function.visit_expressions.Goals as goal

pub loop-expression-preserved : goal.loop-expression-preserved
loop-expression-preserved c =
    fold-at visit references_of_expression c.loop-expression.tracer c.collect_references.new.collector (visits c.args.tracer.now (flat_map references_of_expression c.as_slice-expressions.result.now)) c.as_slice-expressions.result.now c.loop-expression.expression-index c.expression-item.result c.loop-expression-test.true c.expression-item.is c.loop-expression.invariant
    c.collect_references.ensures

pub returns : goal.returns
returns c =
    fold-past visit references_of_expression c.loop-expression.tracer (visits c.args.tracer.now (flat_map references_of_expression c.as_slice-expressions.result.now)) c.as_slice-expressions.result.now c.loop-expression.expression-index c.loop-expression-test.false c.loop-expression.invariant
    ∙ ap (λ xs. visits c.args.tracer.now (flat_map references_of_expression xs)) c.as_slice-expressions.ensures
