use Rattle.naga_bounds.proofs.StartsLemmas.{new_of-injective}
use Rattle.naga_bounds.proofs.plan.PlanRenameKeyHandleExpression.new_key.Goals as goal

pub returns-then-index-len-clause-injective : goal.returns-then-index-len-clause-injective
returns-then-index-len-clause-injective c = new_of-injective c.args.self.now

pub returns-else-index-len-clause-injective : goal.returns-else-index-len-clause-injective
returns-else-index-len-clause-injective c = new_of-injective c.args.self.now
