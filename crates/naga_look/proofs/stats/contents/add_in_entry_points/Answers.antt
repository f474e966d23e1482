use Rattle.std.specs.Prelude.{sum_by}
use Rattle.naga_look.specs.Stats.{entry_expression_count}
use Rattle.naga_look.specs.Summary.{saturating_sum}
use Rattle.naga_look.proofs.SaturatingSumLemmas.{added-at, saturating_sum-fits}
use Rattle.naga_look.proofs.stats.contents.add_in_entry_points.Goals as goal

pub entry_points-preserved : goal.entry_points-preserved
entry_points-preserved c = record {
  added = added-at entry_expression_count c.entry_points.total c.add_expressions-total.result (saturating_sum c.args.counted (sum_by entry_expression_count c.args.entry_points.now)) c.args.entry_points.now c.entry_points.entry_point-index c.entry_point-item.result c.entry_points-test.true c.entry_point-item.is c.entry_points.invariant.added c.add_expressions-total.ensures;
  fits = saturating_sum-fits c.entry_points.total c.add_expressions-total.result _ c.add_expressions-total.ensures;
}
