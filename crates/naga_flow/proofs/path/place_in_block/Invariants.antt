use Rattle.std.proofs.Common.{◌≡◌, ◌≤◌, drop}
use Rattle.naga_ir.specs.Block.{statements}
use Rattle.naga_ir.specs.View.{tree_of}
use Rattle.naga_flow.specs.Paths.{path_at, paths_in}
use Rattle.naga_flow.proofs.PathsLemmas.{paths_from}
use Rattle.naga_flow.proofs.path.place_in_block.Given as goal

-- the path is that with the number that is left, in the statements from this one on
abbrev pub invariant-statements : goal.invariant-statements
invariant-statements l = record {
  path : path_at (paths_from l.position (drop l.position (statements l.block))) l.left ≡ path_at (paths_in (tree_of l.block)) l.number;
  lower : l.left ≤ l.number;
}
