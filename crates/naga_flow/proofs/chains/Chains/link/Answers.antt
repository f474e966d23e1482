use Rattle.std.proofs.Common.{◌∙◌, ap, subst}
use Rattle.naga_flow.specs.Chains.{IsLink, link_at}
use Rattle.naga_flow.proofs.ChainsLemmas.{AreChains-link}
use Rattle.naga_flow.proofs.chains.Chains.link.Goals as goal

pub returns : goal.returns
returns c =
    subst (λ arena. IsLink arena c.args.handle c.link_at.result) c.self.view_is
    (AreChains-link c.self.inside.expressions.now c.self.inside.links.items c.self.invariant c.args.handle c.link_at.result
    (c.link_at.ensures ∙ ap (λ links. link_at links c.args.handle) c.as_slice.ensures.value))
