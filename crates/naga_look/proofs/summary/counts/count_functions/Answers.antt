use Rattle.std.proofs.Common.{◌∷◌, [], map, refl}
use Rattle.naga_look.specs.Summary.{body_of, no_counts, with_blocks}
use Rattle.naga_look.proofs.WithBlocksLemmas.{counted-at, counted-past, with_blocks-fits, no_counts-fits}
use Rattle.naga_look.proofs.summary.counts.count_functions.Goals as goal

pub functions-init : goal.functions-init
functions-init c = record { counted = refl; fits = no_counts-fits }

pub functions-preserved : goal.functions-preserved
functions-preserved c = record {
  counted = counted-at body_of c.functions.total c.count_block-total.result (with_blocks no_counts (map body_of c.args.functions.now)) c.args.functions.now c.functions.function-index c.function-item.result c.functions-test.true c.function-item.is c.functions.invariant.counted c.count_block-total.ensures;
  fits = with_blocks-fits c.functions.total c.count_block-total.result (body_of c.function-item.result ∷ []) c.count_block-total.ensures;
}

pub returns : goal.returns
returns c =
    counted-past body_of c.functions.total (with_blocks no_counts (map body_of c.args.functions.now)) c.args.functions.now c.functions.function-index c.functions-test.false c.functions.invariant.fits c.functions.invariant.counted
