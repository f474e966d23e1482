use Rattle.std.proofs.Common.{vec_capacity, arith}
use Rattle.naga_sets.proofs.AreWordsForLemmas.{AreWordsFor-insert}
use Rattle.naga_sets.proofs.handle_set.HandleSet.insert.Goals as goal

pub invariant_of-self-2 : goal.invariant_of-self-2
invariant_of-self-2 g c =
    let old = c.self.inside.words in
    let new = c.set_bit.new.words in
    let set = c.in_ok-is_new.ensures in
    rw c.max-self-inside.ensures
    (AreWordsFor-insert c.self.inside.bound c.index-index.result old.items new.items (vec_capacity old) (vec_capacity new)
    c.self.invariant (omega (arith, c.index-index.ensures.bound)) set.inserted set.len c.set_bit.ensures.capacity set.fits)
