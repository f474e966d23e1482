use Rattle.std.proofs.Common.{◌≡◌, ◌∙◌, ◌+◌, Some, false, sym}
use Rattle.naga_arena.specs.Arena.{value_at}
use Rattle.naga_flow.specs.Places.{ready_in}
use Rattle.naga_flow.specs.Readings.{chosen_base}
use Rattle.naga_flow.proofs.ConstantChainsLemmas.{constant_chains_in-base, next-before}
use Rattle.naga_bounds.specs.Reach.{is_fixed_access}
use Rattle.naga_bounds.proofs.FixedAccessLemmas.{BasesPrecede-fixed}
use Rattle.naga_bounds.proofs.places.is_place.Goals as goal

pub returns-in-Some : goal.returns-in-Some
returns-in-Some c =
    let code = c.args.typed.now in
    let chosen = is_fixed_access code in
    let precede = BasesPrecede-fixed code (c.args.handle + 1) in
    let other : ready_in (value_at code.arena c.args.handle) ≡ false = sym c.is_ready.ensures ∙ c.if-is_ready.false in
    let is : chosen_base chosen code.arena c.args.handle ≡ Some c.in-Some.base = sym c.fixed_base.ensures ∙ c.in-Some.is in
    c.contains.ensures.value
    ∙ c.requires.chains c.in-Some.base (next-before chosen code.arena c.args.handle c.in-Some.base precede is)
    ∙ sym (constant_chains_in-base chosen code.arena c.args.handle c.in-Some.base precede other is)
