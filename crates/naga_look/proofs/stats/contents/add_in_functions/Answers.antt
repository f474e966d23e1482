use Rattle.std.specs.Prelude.{sum_by}
use Rattle.naga_look.specs.Stats.{expression_count}
use Rattle.naga_look.specs.Summary.{saturating_sum}
use Rattle.naga_look.proofs.SaturatingSumLemmas.{added-at, saturating_sum-fits}
use Rattle.naga_look.proofs.stats.contents.add_in_functions.Goals as goal

pub functions-preserved : goal.functions-preserved
functions-preserved c = record {
  added = added-at expression_count c.functions.total c.add_expressions-total.result (saturating_sum c.args.counted (sum_by expression_count c.args.functions.now)) c.args.functions.now c.functions.function-index c.function-item.result c.functions-test.true c.function-item.is c.functions.invariant.added c.add_expressions-total.ensures;
  fits = saturating_sum-fits c.functions.total c.add_expressions-total.result _ c.add_expressions-total.ensures;
}
