use Rattle.naga_compact.proofs.RankLemmas.{rank-increases}
use Rattle.naga_compact.proofs.laws.new_indices_keep_the_order.Goals as goal

pub returns : goal.returns
returns c = rank-increases
