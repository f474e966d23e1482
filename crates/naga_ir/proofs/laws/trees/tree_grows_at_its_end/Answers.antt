use Rattle.naga_ir.specs.Block.{pairs}
use Rattle.naga_ir.proofs.PushedLemmas.{tree-push}
use Rattle.naga_ir.proofs.laws.trees.tree_grows_at_its_end.Goals as goal

pub returns : goal.returns
returns c = tree-push (pairs c.args.block.now) c.args.statement.now c.args.span
