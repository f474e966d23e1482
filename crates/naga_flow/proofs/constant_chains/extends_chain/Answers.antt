use Rattle.std.proofs.Common.{◌≡◌, ◌∙◌, Some, false, sym}
use Rattle.std.specs.FinSet.{contains}
use Rattle.naga_arena.specs.Arena.{value_at}
use Rattle.naga_flow.specs.Places.{ready_in}
use Rattle.naga_flow.specs.Readings.{chosen_base}
use Rattle.naga_flow.proofs.ConstantChainsLemmas.{constant_chains_in-base, next-before}
use Rattle.naga_flow.proofs.constant_chains.extends_chain.Goals as goal

pub returns-in-Some : goal.returns-in-Some
returns-in-Some c =
    let chosen = contains c.args.chosen.now.members in
    let arena = c.args.expressions.now in
    let other : ready_in (value_at arena c.args.handle) ≡ false = sym c.is_ready.ensures ∙ c.if-is_ready.false in
    let is : chosen_base chosen arena c.args.handle ≡ Some c.in-Some.base = sym c.chosen_base.ensures ∙ c.in-Some.is in
    c.contains.ensures.value
    ∙ c.requires.chains.chains c.in-Some.base (next-before chosen arena c.args.handle c.in-Some.base c.requires.precede is)
    ∙ sym (constant_chains_in-base chosen arena c.args.handle c.in-Some.base c.requires.precede other is)
