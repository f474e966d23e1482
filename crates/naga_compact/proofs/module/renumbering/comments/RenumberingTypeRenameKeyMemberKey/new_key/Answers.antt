use Rattle.std.specs.FinSet.{contains}
use Rattle.naga_compact.proofs.RankLemmas.{rank-injective_pair}
use Rattle.naga_compact.proofs.module.renumbering.comments.RenumberingTypeRenameKeyMemberKey.new_key.Goals as goal

pub returns-then-keeps-clause-injective : goal.returns-then-keeps-clause-injective
returns-then-keeps-clause-injective c = rank-injective_pair (contains c.args.self.now.members)

pub returns-else-keeps-clause-injective : goal.returns-else-keeps-clause-injective
returns-else-keeps-clause-injective c = rank-injective_pair (contains c.args.self.now.members)
