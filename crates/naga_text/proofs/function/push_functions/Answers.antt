use Rattle.std.proofs.Common.{◌∙◌, ◌++◌, ap}
use Rattle.std.specs.Prelude.{flat_map, option_copied}
use Rattle.naga_text.specs.Module.{function_lines}
use Rattle.naga_text.proofs.PiecesLemmas.{flat_map-next, flat_map-over}
use Rattle.naga_text.proofs.function.push_functions.Goals as goal

pub loop-handle-init : goal.loop-handle-init
loop-handle-init c =
    ap (λ entries. c.args.text.now ++ flat_map (function_lines (option_copied c.args.old) c.args.owner.now) entries) (c.into_iter-handle-iterator.ensures.into_iter_gives ∙ c.iter-handle-items.ensures.rest)

pub loop-handle-preserved : goal.loop-handle-preserved
loop-handle-preserved c =
    flat_map-next (function_lines (option_copied c.args.old) c.args.owner.now) (c.in-Some.handle, c.in-Some.function.now) c.next.new.self c.loop-handle.handle-iterator c.loop-handle.text c.push_function.new.text _
    c.in-Some.ensures.steps c.in_ok-push_function.ensures c.loop-handle.invariant

pub returns : goal.returns
returns c =
    flat_map-over (function_lines (option_copied c.args.old) c.args.owner.now) c.loop-handle.handle-iterator c.loop-handle.text _ c.in-None.ensures.steps.0 c.loop-handle.invariant
