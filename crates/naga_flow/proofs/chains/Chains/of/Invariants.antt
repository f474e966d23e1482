use Rattle.std.proofs.Common.{◌≡◌, length}
use Rattle.naga_flow.specs.Chains.{AreLinks}
use Rattle.naga_flow.proofs.chains.Chains.of.Given as goal

-- the expressions before this one have their links
abbrev pub invariant-expressions : goal.invariant-expressions
invariant-expressions l = record {
  links : AreLinks l.expressions l.links.items;
  len : length l.links.items ≡ l.index;
}
