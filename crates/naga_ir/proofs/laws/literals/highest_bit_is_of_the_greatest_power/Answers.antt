use Rattle.naga_ir.proofs.HighestBitLemmas.{highest_bit-within}
use Rattle.naga_ir.proofs.laws.literals.highest_bit_is_of_the_greatest_power.Goals as goal

pub returns-clause-within : goal.returns-clause-within
returns-clause-within c = (highest_bit-within c.args.byte c.requires c.ranges.byte.fits).0

pub returns-clause-greatest : goal.returns-clause-greatest
returns-clause-greatest c = (highest_bit-within c.args.byte c.requires c.ranges.byte.fits).1
