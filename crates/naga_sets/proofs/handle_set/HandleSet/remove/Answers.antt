use Rattle.std.proofs.Common.{vec_capacity, arith}
use Rattle.naga_sets.proofs.AreWordsForLemmas.{AreWordsFor-remove}
use Rattle.naga_sets.proofs.handle_set.HandleSet.remove.Goals as goal

pub invariant_of-self : goal.invariant_of-self
invariant_of-self g c =
    let old = c.self.inside.words in
    let new = c.clear_bit.new.words in
    AreWordsFor-remove c.self.inside.bound c.index.result old.items new.items (vec_capacity old) (vec_capacity new)
    c.self.invariant c.clear_bit.ensures.removed (omega (arith, c.clear_bit.ensures.len)) c.clear_bit.ensures.capacity
