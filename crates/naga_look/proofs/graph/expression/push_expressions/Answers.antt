use Rattle.naga_text.proofs.PiecesLemmas.{flat_map-next, flat_map-over}
use Rattle.naga_look.specs.Graph.{expression_text}
use Rattle.naga_look.proofs.graph.expression.push_expressions.Goals as goal

pub loop-handle-preserved : goal.loop-handle-preserved
loop-handle-preserved c =
    flat_map-next (expression_text c.args.«module».now c.args.function.now c.args.place) (c.in-Some.handle, c.in-Some.expression.now) c.next.new.self c.loop-handle.handle-iterator c.loop-handle.text c.push_expression.new.text _
    c.in-Some.ensures.steps c.in_ok-push_expression.ensures c.loop-handle.invariant

pub returns : goal.returns
returns c =
    flat_map-over (expression_text c.args.«module».now c.args.function.now c.args.place) c.loop-handle.handle-iterator c.loop-handle.text _ c.in-None.ensures.steps.0 c.loop-handle.invariant
