use Rattle.std.proofs.Common.{◌≡◌, true}
use Rattle.std.specs.FinSet.{contains}
use Rattle.naga_flow.specs.ConstantChains.{AreChainsBefore, BasesPrecede}
use Rattle.naga_flow.proofs.constant_chains.constant_chains.Given as goal

-- the expressions before this one have their answers, and whether the bases of all of these come before them is known
abbrev pub invariant-expressions : goal.invariant-expressions
invariant-expressions l = record {
  chains : AreChainsBefore (contains l.fn.chosen.members) l.fn.expressions l.index l.chains;
  precede : l.precede ≡ true → BasesPrecede (contains l.fn.chosen.members) l.fn.expressions l.index;
}
