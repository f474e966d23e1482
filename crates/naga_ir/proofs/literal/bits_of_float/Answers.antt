-- The sum of the shifts, from the bounds on the position of the highest bit.
use Rattle.std.proofs.Common.{sym, arith}
use Rattle.naga_ir.proofs.FloatBitsLemmas.{float_bits-zero, shifts-bits, shifts-lt, shifts-fit}
use Rattle.naga_ir.proofs.literal.bits_of_float.Goals as goal

pub returns-then-value-eq0-clause-bits : goal.returns-then-value-eq0-clause-bits
returns-then-value-eq0-clause-bits c = rw c.if-value-eq0.true (sym (float_bits-zero c.args.bias c.args.fraction))

pub overflow_add-result-2 : goal.overflow_add-result-2
overflow_add-result-2 c =
    let e = c.ilog2-exponent in
    rw (c.from-2.ensures, c.from.ensures) (omega (arith, shifts-fit c.args.bias c.args.fraction c.args.value e.result c.requires.exponents c.requires.digits c.requires.fits e.ensures.bound e.ensures.power_le e.ensures.next_power_gt))

pub returns-clause-bits : goal.returns-clause-bits
returns-clause-bits c =
    let e = c.ilog2-exponent in
    rw (c.from-2.ensures, c.from.ensures) (shifts-bits c.args.bias c.args.fraction c.args.value e.result c.requires.exponents c.requires.digits c.requires.fits e.ensures.bound e.ensures.power_le e.ensures.next_power_gt)

pub returns-clause-bound : goal.returns-clause-bound
returns-clause-bound c =
    let e = c.ilog2-exponent in
    rw (c.from-2.ensures, c.from.ensures) (shifts-lt c.args.bias c.args.fraction c.args.value e.result c.requires.exponents c.requires.digits c.requires.fits e.ensures.bound e.ensures.power_le e.ensures.next_power_gt)
