use Rattle.naga_bounds.proofs.HasPassingLemmas.{HasPassing}
use Rattle.naga_bounds.specs.Reach.{is_fixed_access}
use Rattle.naga_bounds.proofs.places.fixed_accesses_of.Given as goal

-- the expressions before this one have their answers
abbrev pub invariant-expressions : goal.invariant-expressions
invariant-expressions l = HasPassing (is_fixed_access l.typed) l.index l.found
