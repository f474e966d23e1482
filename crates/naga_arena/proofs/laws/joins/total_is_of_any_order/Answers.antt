use Rattle.naga_arena.proofs.JoinLemmas.{total-IsPermutation}
use Rattle.naga_arena.proofs.laws.joins.total_is_of_any_order.Goals as goal

pub returns : goal.returns
returns c = total-IsPermutation
