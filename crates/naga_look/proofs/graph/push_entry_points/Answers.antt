use Rattle.std.specs.Prelude.{option_copied}
use Rattle.naga_text.proofs.PiecesLemmas.{entries-next, entries-over}
use Rattle.naga_look.specs.Graph.{entry_point_text}
use Rattle.naga_look.proofs.graph.push_entry_points.Goals as goal

pub loop-position-preserved : goal.loop-position-preserved
loop-position-preserved c =
    entries-next (entry_point_text c.args.«module».now (option_copied c.args.old)) c.args.entry_points.now c.loop-position.position c.index-entry_points-position.result c.loop-position.text c.push_entry_point.new.text _
    c.loop-position-test.true c.index-entry_points-position.is c.in_ok-push_entry_point.ensures c.loop-position.invariant

pub returns : goal.returns
returns c =
    entries-over (entry_point_text c.args.«module».now (option_copied c.args.old)) c.args.entry_points.now c.loop-position.position c.loop-position.text _ c.loop-position-test.false c.loop-position.invariant
