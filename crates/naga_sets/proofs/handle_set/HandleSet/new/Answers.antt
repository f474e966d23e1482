use Rattle.std.proofs.Common.{vec_capacity, arith}
use Rattle.naga_sets.proofs.AreWordsForLemmas.{AreWordsFor-none}
use Rattle.naga_sets.proofs.handle_set.HandleSet.new.Goals as goal

pub invariant_of-result : goal.invariant_of-result
invariant_of-result g c =
    AreWordsFor-none 0 c.new.result.items (vec_capacity c.new.result) c.new.ensures.items (omega arith) (omega arith)
