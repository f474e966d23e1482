use Rattle.std.proofs.Common.{◌≡◌, ◌∙◌, ap, length, rules, sym}
use Rattle.naga_flow.proofs.TracksLemmas.{length-seen_by}
use Rattle.naga_flow.proofs.known.Known.len.Goals as goal

pub returns : goal.returns
returns c =
    let found : c.len.result ≡ length c.self.inside.order.items = search rules in
    found ∙ (sym (length-seen_by c.self.inside.states.items c.self.inside.order.items) ∙ ap length c.self.view_is)
