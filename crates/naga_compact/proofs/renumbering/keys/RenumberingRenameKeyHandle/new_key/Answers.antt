use Rattle.std.specs.FinSet.{contains}
use Rattle.naga_compact.proofs.RankLemmas.{rank-injective}
use Rattle.naga_compact.proofs.renumbering.keys.RenumberingRenameKeyHandle.new_key.Goals as goal

pub returns-then-keeps-clause-injective : goal.returns-then-keeps-clause-injective
returns-then-keeps-clause-injective g c = rank-injective (contains c.args.self.now.members)

pub returns-else-keeps-clause-injective : goal.returns-else-keeps-clause-injective
returns-else-keeps-clause-injective g c = rank-injective (contains c.args.self.now.members)
