use Rattle.naga_ir.specs.View.{tree_of}
use Rattle.naga_look.proofs.WithBlocksLemmas.{with_blocks-one}
use Rattle.naga_look.proofs.summary.counts.count_block.Goals as goal

pub returns : goal.returns
returns c =
    with_blocks-one c.args.counts (tree_of c.args.block.now) _ _ _ c.add_statements.ensures c.add_open_tails.ensures c.add_open_tails-2.ensures
