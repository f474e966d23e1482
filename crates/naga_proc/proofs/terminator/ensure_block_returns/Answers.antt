use Rattle.std.proofs.lemmas.Result.{on_ok_weaker}
use Rattle.naga_ir.specs.View.{tree_of}
use Rattle.naga_proc.proofs.Closing.FallenLemmas.{FullyClosed-NeverFallsOff}
use Rattle.naga_proc.proofs.terminator.ensure_block_returns.Goals as goal

pub returns-clause-never : goal.returns-clause-never
returns-clause-never c =
    on_ok_weaker c.ensure_block_returns_by.result (FullyClosed-NeverFallsOff (tree_of c.args.block.now) (tree_of c.ensure_block_returns_by.new.block)) c.ensure_block_returns_by.ensures.closed
