use Rattle.std.proofs.Common.{refl}
use lib.Count.{count_leading_zeros}
use Rattle.naga_ir.specs.Literal.{float_bits}
use Rattle.naga_ir.proofs.literal.minus_one_float.Goals as goal

pub returns-in-8 : goal.returns-in-8
unfolding float_bits count_leading_zeros
returns-in-8 c = rw c.in-8.is refl

pub returns-in-4 : goal.returns-in-4
unfolding float_bits count_leading_zeros
returns-in-4 c = rw c.in-4.is refl

pub returns-in-2 : goal.returns-in-2
unfolding float_bits count_leading_zeros
returns-in-2 c = rw c.in-2.is refl
