use Rattle.naga_ir.specs.View.{tree_of}
use Rattle.naga_flow.specs.Structured.{of_function}
use Rattle.naga_flow.proofs.JumpsLemmas.{told-structured}
use Rattle.naga_flow.proofs.jumps.jumps_are_structured.Goals as goal

pub returns : goal.returns
returns c =
    told-structured c.of_function.result of_function (tree_of c.args.body.now) c.start.result.met c.walk_block.result c.walk_block.new.place c.is_none.result c.of_function.ensures c.walk_block.ensures c.is_none.ensures
