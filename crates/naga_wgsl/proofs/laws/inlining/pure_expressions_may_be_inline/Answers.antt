use Rattle.std.proofs.Common.{refl}
use Rattle.naga_arena.specs.Arena.{value_at}
use Rattle.naga_flow.specs.Readings.{constant_chains_in}
use Rattle.naga_meaning.specs.Readings.{chains_in}
use Rattle.naga_wgsl.proofs.IsPureLemmas.{chain-pure, constant_chain-pure, pure-may_inline}
use Rattle.naga_wgsl.proofs.laws.inlining.pure_expressions_may_be_inline.Goals as goal

pub returns-clause-chains : goal.returns-clause-chains
returns-clause-chains g c =
    λ look by inline arena steady chosen. pure-may_inline look by (chains_in arena) inline arena steady (λ x is. chain-pure arena x is (value_at arena x) refl) chosen

pub returns-clause-narrow : goal.returns-clause-narrow
returns-clause-narrow g c =
    λ look by at_use inline arena steady chosen. pure-may_inline look by (constant_chains_in at_use arena) inline arena steady (constant_chain-pure at_use arena) chosen
