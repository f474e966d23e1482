use Rattle.naga_flow.specs.ConstantChains.{AreChainsBefore}
use Rattle.naga_bounds.specs.Reach.{is_fixed_access}
use Rattle.naga_bounds.proofs.places.places.Given as goal

-- the expressions before this one have their answers
abbrev pub invariant-expressions : goal.invariant-expressions
invariant-expressions l = AreChainsBefore (is_fixed_access l.typed) l.typed.arena l.index l.places
