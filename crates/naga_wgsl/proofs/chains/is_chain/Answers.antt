use Rattle.std.proofs.Common.{◌∙◌, ap, sym}
use Rattle.naga_flow.specs.Places.{ready_in}
use Rattle.naga_flow.proofs.PlacesLemmas.{base_before-less}
use Rattle.naga_wgsl.proofs.ChainsInLemmas.{chains_in-base, chains_in-last}
use Rattle.naga_wgsl.proofs.chains.is_chain.Goals as goal

pub returns-in-Some : goal.returns-in-Some
returns-in-Some c =
    let arena = c.args.expressions.now in
    let is = sym c.base_before.ensures ∙ c.in-Some.is in
    c.contains.ensures.value
    ∙ c.requires.before c.in-Some.base (base_before-less arena c.args.handle c.in-Some.base is)
    ∙ sym (chains_in-base arena c.args.handle c.in-Some.base is)

pub returns-in-None : goal.returns-in-None
returns-in-None c =
    let arena = c.args.expressions.now in
    c.needs_pre_emit.ensures ∙ sym (chains_in-last arena c.args.handle (sym c.base_before.ensures ∙ c.in-None.is) ∙ ap ready_in c.index.ensures)
