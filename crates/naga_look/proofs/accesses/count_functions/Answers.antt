use Rattle.std.proofs.Common.{arith, refl}
use Rattle.naga_look.specs.Accesses.{misfits_in, with_misfits}
use Rattle.naga_look.proofs.SaturatingSumLemmas.{added-at, added-past, saturating_sum-fits}
use Rattle.naga_look.proofs.accesses.count_functions.Goals as goal

pub functions-init : goal.functions-init
functions-init c = record { counted = refl; fits = omega (arith) }

pub functions-preserved : goal.functions-preserved
functions-preserved c =
    let whole = c.args.«module».now in record {
      counted = added-at (misfits_in whole) c.functions.total c.in_ok-total.total (with_misfits whole 0 c.args.functions.now) c.args.functions.now c.functions.function-index c.function-item.result c.functions-test.true c.function-item.is c.functions.invariant.counted c.in_ok-total.ensures;
      fits = saturating_sum-fits c.functions.total c.in_ok-total.total _ c.in_ok-total.ensures;
    }

pub returns : goal.returns
returns c =
    let whole = c.args.«module».now in
    added-past (misfits_in whole) c.functions.total (with_misfits whole 0 c.args.functions.now) c.args.functions.now c.functions.function-index c.functions-test.false c.functions.invariant.fits c.functions.invariant.counted
