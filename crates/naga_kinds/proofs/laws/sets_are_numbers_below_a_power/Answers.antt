-- The bits of all flags together are a mask of the lowest bits, so the lemma on masks proves each clause at its width.
use Rattle.bitflags.proofs.OnLiterals.{bitflags_on_literals}
use Rattle.naga_kinds.proofs.BitAndLemmas.{bit_and-mask}
use Rattle.naga_kinds.proofs.laws.sets_are_numbers_below_a_power.Goals as goal

pub returns-clause-storage_accesses : goal.returns-clause-storage_accesses
unfolding bitflags_on_literals
returns-clause-storage_accesses c = bit_and-mask c.args.bits 3

pub returns-clause-memory_decorations : goal.returns-clause-memory_decorations
unfolding bitflags_on_literals
returns-clause-memory_decorations c = bit_and-mask c.args.bits 2

pub returns-clause-barriers : goal.returns-clause-barriers
unfolding bitflags_on_literals
returns-clause-barriers c = bit_and-mask c.args.bits 4

pub returns-clause-ray_flags : goal.returns-clause-ray_flags
unfolding bitflags_on_literals
returns-clause-ray_flags c = bit_and-mask c.args.bits 10
