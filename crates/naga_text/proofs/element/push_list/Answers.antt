use Rattle.naga_text.proofs.PiecesLemmas.{entries-next, entries-over}
use Rattle.naga_text.proofs.element.push_list.Goals as goal

pub loop-index-preserved : goal.loop-index-preserved
loop-index-preserved g c =
    entries-next g.T.Element.lines c.args.list.now c.loop-index.index c.index-list-index.result c.loop-index.text c.push.new.text _
    c.loop-index-test.true c.index-list-index.is c.in_ok-push.ensures c.loop-index.invariant

pub returns : goal.returns
returns g c =
    entries-over g.T.Element.lines c.args.list.now c.loop-index.index c.loop-index.text _ c.loop-index-test.false c.loop-index.invariant
