use Rattle.std.proofs.Common.{vec_capacity, arith}
use Rattle.naga_sets.proofs.AreWordsForLemmas.{AreWordsFor-full}
use Rattle.naga_sets.proofs.handle_set.HandleSet.add_all.Goals as goal

pub invariant_of-self : goal.invariant_of-self
invariant_of-self g c =
    let new = c.set_bits_below.new.words in
    AreWordsFor-full c.self.inside.bound new.items (vec_capacity new) c.self.invariant.small
    (omega (arith, c.self.invariant.room, c.set_bits_below.ensures.capacity)) c.set_bits_below.ensures.full c.set_bits_below.ensures.len
