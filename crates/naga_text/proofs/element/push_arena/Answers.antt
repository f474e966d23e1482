use Rattle.std.proofs.Common.{◌≡◌, ◌∙◌, ◌++◌, ap}
use Rattle.std.specs.Prelude.{flat_map}
use Rattle.naga_text.proofs.PiecesLemmas.{flat_map-next, flat_map-over}
use Rattle.naga_text.proofs.element.push_arena.Goals as goal

pub loop-handle-init : goal.loop-handle-init
loop-handle-init g c =
    ap (λ entries. c.args.text.now ++ flat_map g.T.Element.lines entries) (c.into_iter-handle-iterator.ensures.into_iter_gives ∙ c.iter-handle-items.ensures.rest)

pub loop-handle-preserved : goal.loop-handle-preserved
loop-handle-preserved g c =
    let appended : c.push.new.text ≡ c.loop-handle.text ++ g.T.Element.lines (c.in-Some.handle, c.in-Some.element.now) =
    c.in_ok-push.ensures ∙ ap (λ index. c.loop-handle.text ++ g.T.Element.lines (index, c.in-Some.element.now)) c.index.ensures.value
    in
    flat_map-next g.T.Element.lines (c.in-Some.handle, c.in-Some.element.now) c.next.new.self c.loop-handle.handle-iterator c.loop-handle.text c.push.new.text _ c.in-Some.ensures.steps appended c.loop-handle.invariant

pub returns : goal.returns
returns g c =
    flat_map-over g.T.Element.lines c.loop-handle.handle-iterator c.loop-handle.text _ c.in-None.ensures.steps.0 c.loop-handle.invariant
