use Rattle.std.proofs.Common.{◌<◌, arith}
use Rattle.naga_arena.proofs.AllLemmas.{All-take_all, All-take_more}
use Rattle.naga_change_tests.proofs.proc.flattening.are_below.Goals as goal

pub loop-handle-preserved : goal.loop-handle-preserved
loop-handle-preserved c =
    All-take_more (λ handle. handle < c.args.len) _ _ _ c.loop-handle-test.true c.handle-item.is c.loop-handle.invariant (omega arith)

pub returns : goal.returns
returns c _ = All-take_all (λ handle. handle < c.args.len) _ _ c.loop-handle-test.false c.loop-handle.invariant
