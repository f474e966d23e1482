use Rattle.std.proofs.Common.{◌≡◌, ◌∙◌, ◌<◌, ◌≤◌, ◌∷◌, ◌++◌, [], ap, arith, length, rules, sym, take}
use Rattle.std.proofs.lemmas.List.{take_all}
use Rattle.naga_flow.specs.Tracking.{seen_by}
use Rattle.naga_flow.proofs.TracksLemmas.{Tracks-forgot, Tracks-last, Tracks-within, length-seen_by, seen_by-forgot, shorter-within}
use Rattle.naga_flow.proofs.known.Known.forget_from.Goals as goal

pub newest-init : goal.newest-init
newest-init c =
    let same : length c.args.self.now ≡ length c.self.inside.order.items =
    ap length (sym c.self.view_is) ∙ length-seen_by c.self.inside.states.items c.self.inside.order.items in
    record { tracked = c.self.invariant; within = omega (arith, same, c.requires); first = ap (take c.args.len) c.self.view_is }

pub put-requires : goal.put-requires
put-requires c =
    Tracks-within c.newest.self-inside.states.items c.newest.self-inside.order.items c.in-Some.handle c.newest.invariant.tracked
    (Tracks-last c.newest.self-inside.states.items c.newest.self-inside.order.items c.pop.new.self.items c.in-Some.handle c.newest.invariant.tracked c.in-Some.ensures.items)

pub newest-preserved : goal.newest-preserved
newest-preserved c =
    let popped : c.newest.self-inside.order.items ≡ c.pop.new.self.items ++ c.in-Some.handle ∷ [] = c.in-Some.ensures.items in
    let more : c.args.len < length c.newest.self-inside.order.items = search rules in
    record {
      tracked = Tracks-forgot c.newest.self-inside.states.items c.newest.self-inside.order.items c.pop.new.self.items c.in-Some.handle c.newest.invariant.tracked popped
          c.put.new.states.items c.put.ensures.here c.put.ensures.others;
      within = shorter-within c.newest.self-inside.order.items c.pop.new.self.items c.in-Some.handle c.args.len popped more;
      first = seen_by-forgot c.newest.self-inside.states.items c.newest.self-inside.order.items c.pop.new.self.items c.in-Some.handle c.newest.invariant.tracked popped
          c.put.new.states.items c.put.ensures.here c.put.ensures.others c.args.len more c.args.self.now c.newest.invariant.first;
    }

pub returns : goal.returns
returns c =
    let all = seen_by c.newest.self-inside.states.items c.newest.self-inside.order.items in
    let short : length all ≤ c.args.len =
    (let e : length all ≡ length c.newest.self-inside.order.items = length-seen_by c.newest.self-inside.states.items c.newest.self-inside.order.items in
    let found : c.len.result ≡ length c.newest.self-inside.order.items = search rules in
    omega (arith, e, found, c.newest-test.false))
    in
    sym (take_all c.args.len all short) ∙ c.newest.invariant.first
