use Rattle.std.proofs.Common.{arith}
use Rattle.naga_sets.proofs.BitSetLemmas.{bit_set-empty}
use Rattle.naga_sets.proofs.handle_set.words.has_no_bits.Goals as goal

pub returns : goal.returns
returns c = rw c.are_zero.ensures (bit_set-empty c.args.words.now (λ i. omega (arith, c.type_inv.words i)))
