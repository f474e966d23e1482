use Rattle.naga_ir.proofs.NodeOfLemmas.{node_of-Block, node_of-If, node_of-Loop, node_of-Switch}
use Rattle.naga_ir.proofs.laws.trees.held_blocks_are_seen_as_trees.Goals as goal

pub returns : goal.returns
returns c = record {
  block = node_of-Block c.args.first.now;
  branches = node_of-If c.args.condition c.args.first.now c.args.second.now;
  cases = node_of-Switch c.args.condition c.args.cases.now;
  turns = node_of-Loop c.args.first.now c.args.second.now c.args.break_if;
}
