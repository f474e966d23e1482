use Rattle.std.specs.Prelude.{option_copied}
use Rattle.naga_text.proofs.PiecesLemmas.{flat_map-next, flat_map-over}
use Rattle.naga_look.specs.Graph.{function_text}
use Rattle.naga_look.proofs.graph.push_functions.Goals as goal

pub loop-handle-preserved : goal.loop-handle-preserved
loop-handle-preserved c =
    flat_map-next (function_text c.args.«module».now (option_copied c.args.old)) (c.in-Some.handle, c.in-Some.function.now) c.next.new.self c.loop-handle.handle-iterator c.loop-handle.text c.push_function.new.text _
    c.in-Some.ensures.steps c.in_ok-push_function.ensures c.loop-handle.invariant

pub returns : goal.returns
returns c =
    flat_map-over (function_text c.args.«module».now (option_copied c.args.old)) c.loop-handle.handle-iterator c.loop-handle.text _ c.in-None.ensures.steps.0 c.loop-handle.invariant
