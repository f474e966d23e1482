use Rattle.std.proofs.Common.{◌∷◌, [], map, refl}
use Rattle.naga_look.specs.Summary.{entry_body_of, no_counts, with_blocks}
use Rattle.naga_look.proofs.WithBlocksLemmas.{counted-at, counted-past, with_blocks-fits, no_counts-fits}
use Rattle.naga_look.proofs.summary.counts.count_entry_points.Goals as goal

pub entry_points-init : goal.entry_points-init
entry_points-init c = record { counted = refl; fits = no_counts-fits }

pub entry_points-preserved : goal.entry_points-preserved
entry_points-preserved c = record {
  counted = counted-at entry_body_of c.entry_points.total c.count_block-total.result (with_blocks no_counts (map entry_body_of c.args.entry_points.now)) c.args.entry_points.now c.entry_points.entry_point-index c.entry_point-item.result c.entry_points-test.true c.entry_point-item.is c.entry_points.invariant.counted c.count_block-total.ensures;
  fits = with_blocks-fits c.entry_points.total c.count_block-total.result (entry_body_of c.entry_point-item.result ∷ []) c.count_block-total.ensures;
}

pub returns : goal.returns
returns c =
    counted-past entry_body_of c.entry_points.total (with_blocks no_counts (map entry_body_of c.args.entry_points.now)) c.args.entry_points.now c.entry_points.entry_point-index c.entry_points-test.false c.entry_points.invariant.fits c.entry_points.invariant.counted
