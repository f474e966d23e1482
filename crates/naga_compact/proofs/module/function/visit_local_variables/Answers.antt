use Rattle.std.proofs.Common.{◌∙◌, ap}
use Rattle.std.specs.List.{flat_map}
use Rattle.naga_valid.specs.Declarations.{references_of_local_variable}
use Rattle.naga_compact.specs.Module.Visits.{visit, visits}
use Rattle.naga_compact.proofs.FoldLemmas.{fold-at, fold-past}
use Rattle.naga_compact.proofs.module.function.visit_local_variables.Goals as goal

pub loop-variable-preserved : goal.loop-variable-preserved
loop-variable-preserved c =
    fold-at visit references_of_local_variable c.loop-variable.tracer c.collect_references.new.collector (visits c.args.tracer.now (flat_map references_of_local_variable c.as_slice-variables.result.now)) c.as_slice-variables.result.now c.loop-variable.variable-index c.variable-item.result c.loop-variable-test.true c.variable-item.is c.loop-variable.invariant
    c.collect_references.ensures

pub returns : goal.returns
returns c =
    fold-past visit references_of_local_variable c.loop-variable.tracer (visits c.args.tracer.now (flat_map references_of_local_variable c.as_slice-variables.result.now)) c.as_slice-variables.result.now c.loop-variable.variable-index c.loop-variable-test.false c.loop-variable.invariant
    ∙ ap (λ xs. visits c.args.tracer.now (flat_map references_of_local_variable xs)) c.as_slice-variables.ensures
