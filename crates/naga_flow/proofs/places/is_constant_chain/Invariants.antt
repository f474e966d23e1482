use Rattle.std.proofs.Common.{◌≡◌}
use Rattle.std.specs.FinSet.{contains}
use Rattle.naga_arena.specs.Arena.{value_at}
use Rattle.naga_flow.specs.Places.{ready_in}
use Rattle.naga_flow.specs.Readings.{chosen_base, constant_chains_in, reaches_ready}
use Rattle.naga_flow.proofs.places.is_constant_chain.Given as goal

-- so many steps from here on find the same
abbrev pub invariant-chain : goal.invariant-chain
invariant-chain l =
    constant_chains_in (contains l.chosen.members) l.expressions l.fn.handle
    ≡ reaches_ready (λ x. ready_in (value_at l.expressions x)) (chosen_base (contains l.chosen.members) l.expressions) l.steps l.access

abbrev pub decreases-chain : goal.decreases-chain
decreases-chain l = l.steps
