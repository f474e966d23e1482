use Rattle.std.proofs.Common.{refl}
use Rattle.naga_ir.proofs.PushedLemmas.{tree_of-with_statement}
use Rattle.naga_ir.proofs.laws.trees.writing_changes_one_statement.Goals as goal

pub returns : goal.returns
returns c = record {
  changed = tree_of-with_statement c.args.block.now c.args.position c.args.statement.now c.requires;
  room = refl;
}
