use Rattle.std.proofs.Common.{◌∙◌, ap}
use Rattle.std.specs.List.{flat_map}
use Rattle.naga_valid.specs.Expressions.{references_of_expression}
use Rattle.naga_valid.specs.Operands.{expression_of, operands_of}
use Rattle.naga_compact.proofs.FoldLemmas.{drop-zero, fold-at, fold-filter_map, fold-past}
use Rattle.naga_wgsl.specs.Counts.{use_each, use_once_more}
use Rattle.naga_wgsl.proofs.uses.use_operands.Goals as goal

pub loop-expression-init : goal.loop-expression-init
loop-expression-init c = ap (λ xs. use_each c.args.uses.now (flat_map operands_of xs)) (drop-zero c.as_slice-values.result.now)

pub loop-expression-preserved : goal.loop-expression-preserved
loop-expression-preserved c =
    let all = c.as_slice-values.result.now in
    fold-at use_once_more operands_of c.loop-expression.uses c.collect_references.new.collector (use_each c.args.uses.now (flat_map operands_of all)) all c.loop-expression.expression-index c.expression-item.result c.loop-expression-test.true c.expression-item.is c.loop-expression.invariant
    (c.collect_references.ensures ∙ fold-filter_map use_once_more expression_of c.loop-expression.uses (references_of_expression c.expression-item.result))

pub returns : goal.returns
returns c =
    let all = c.as_slice-values.result.now in
    fold-past use_once_more operands_of c.loop-expression.uses (use_each c.args.uses.now (flat_map operands_of all)) all c.loop-expression.expression-index c.loop-expression-test.false c.loop-expression.invariant
    ∙ ap (λ xs. use_each c.args.uses.now (flat_map operands_of xs)) c.as_slice-values.ensures
