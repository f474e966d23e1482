use Rattle.std.proofs.Common.{◌≡◌, ◌∙◌, ◌+◌, ◌-◌, ◌++◌, ap, arith, drop, length, rules, sym, take}
use Rattle.naga_flow.specs.Tracking.{none_known}
use Rattle.naga_flow.proofs.TracksLemmas.{Contains-at, Tracks-doubted, Tracks-within, length-seen_by, seen_by-next_doubted, seen_by-none_doubted}
use Rattle.naga_flow.proofs.known.Known.doubt_from.Goals as goal

pub doubtful-init : goal.doubtful-init
doubtful-init c =
    let same : length c.args.self.now ≡ length c.self.inside.order.items =
    ap length (sym c.self.view_is) ∙ length-seen_by c.self.inside.states.items c.self.inside.order.items in
    let found : c.len-index.result ≡ length c.self.inside.order.items = search rules in
    record {
      tracked = c.self.invariant;
      from = omega (arith, same, found, c.requires);
      within = omega (arith, found);
      doubted = c.self.view_is ∙ seen_by-none_doubted c.args.self.now c.len-index.result (found ∙ sym same);
    }

pub put-requires : goal.put-requires
put-requires c =
    Tracks-within c.doubtful.self-inside.states.items c.doubtful.self-inside.order.items c.index-handle.result.now c.doubtful.invariant.tracked
    (Contains-at c.doubtful.self-inside.order.items (c.doubtful.index - 1) c.index-handle.result.now (omega (arith, c.doubtful-test.true, c.doubtful.invariant.within)) c.index-handle.ensures)

pub doubtful-preserved : goal.doubtful-preserved
doubtful-preserved c =
    let next = c.doubtful.index - 1 in
    let before : next + 1 ≡ c.doubtful.index = omega (arith, c.doubtful-test.true) in
    record {
      tracked = Tracks-doubted c.doubtful.self-inside.states.items c.put.new.states.items c.index-handle.result.now c.put.ensures.here c.put.ensures.others
          c.doubtful.self-inside.order.items c.doubtful.index next c.doubtful.invariant.tracked before c.doubtful.invariant.within c.index-handle.ensures;
      from = omega (arith, c.doubtful-test.true);
      within = omega (arith, c.doubtful.invariant.within);
      doubted = seen_by-next_doubted c.doubtful.self-inside.states.items c.put.new.states.items c.index-handle.result.now c.put.ensures.here c.put.ensures.others
          c.doubtful.self-inside.order.items c.doubtful.index next c.doubtful.invariant.tracked before c.doubtful.invariant.within c.index-handle.ensures c.args.self.now c.doubtful.invariant.doubted;
    }

pub returns : goal.returns
returns c =
    let last : c.doubtful.index ≡ c.args.len = omega (arith, c.doubtful.invariant.from, c.doubtful-test.false) in
    c.doubtful.invariant.doubted ∙ ap (λ n. take n c.args.self.now ++ none_known (drop n c.args.self.now)) last
