use Rattle.std.proofs.Common.{◌∙◌, ◌++◌, ap}
use Rattle.std.specs.Prelude.{flat_map}
use Rattle.naga_text.specs.Module.{expression_line}
use Rattle.naga_text.proofs.PiecesLemmas.{flat_map-next, flat_map-over}
use Rattle.naga_text.proofs.function.push_typed_expressions.Goals as goal

pub loop-handle-init : goal.loop-handle-init
loop-handle-init c =
    ap (λ entries. c.args.text.now ++ flat_map (expression_line c.args.types.now c.args.resolved.now c.args.function.now) entries) (c.into_iter-handle-iterator.ensures.into_iter_gives ∙ c.iter-handle-items.ensures.rest)

pub loop-handle-preserved : goal.loop-handle-preserved
loop-handle-preserved c =
    flat_map-next (expression_line c.args.types.now c.args.resolved.now c.args.function.now) (c.in-Some.handle, c.in-Some.expression.now) c.next.new.self c.loop-handle.handle-iterator c.loop-handle.text c.push_expression_line.new.text _
    c.in-Some.ensures.steps c.in_ok-push_expression_line.ensures c.loop-handle.invariant

pub returns : goal.returns
returns c =
    flat_map-over (expression_line c.args.types.now c.args.resolved.now c.args.function.now) c.loop-handle.handle-iterator c.loop-handle.text _ c.in-None.ensures.steps.0 c.loop-handle.invariant
