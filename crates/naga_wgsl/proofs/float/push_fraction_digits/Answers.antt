use Rattle.std.proofs.Common.{◌<◌, arith, ◌++◌}
use Rattle.naga_wgsl.specs.Floats.{fraction_digits}
use Rattle.naga_wgsl.proofs.LeadingDigitsLemmas.{reached-first, reached-last, reached-next, unit-positive}
use Rattle.naga_wgsl.proofs.float.push_fraction_digits.Goals as goal

pub digits-init : goal.digits-init
digits-init c = reached-first c.args.text.now c.args.fraction c.requires

pub nonzero_div-rest : goal.nonzero_div-rest
nonzero_div-rest c =
    unit-positive (c.args.text.now ++ fraction_digits c.args.fraction) c.digits.text c.digits.rest c.digits.unit c.digits.invariant c.digits-test.true

pub nonzero_rem-rest : goal.nonzero_rem-rest
nonzero_rem-rest c =
    unit-positive (c.args.text.now ++ fraction_digits c.args.fraction) c.digits.text c.digits.rest c.digits.unit c.digits.invariant c.digits-test.true

pub digits-smaller : goal.digits-smaller
digits-smaller c =
    let some : 0 < c.digits.unit = unit-positive (c.args.text.now ++ fraction_digits c.args.fraction) c.digits.text c.digits.rest c.digits.unit c.digits.invariant c.digits-test.true in
    omega (arith, some)

pub digits-preserved : goal.digits-preserved
digits-preserved c =
    rw c.in_ok-push_hexadecimal.ensures
    (reached-next (c.args.text.now ++ fraction_digits c.args.fraction) c.digits.text c.digits.rest c.digits.unit c.digits.invariant c.digits-test.true)

pub returns : goal.returns
returns c =
    reached-last (c.args.text.now ++ fraction_digits c.args.fraction) c.digits.text c.digits.rest c.digits.unit c.digits.invariant (omega (arith, c.digits-test.false))
