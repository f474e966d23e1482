use Rattle.std.proofs.Common.{vec_capacity, arith}
use Rattle.naga_sets.proofs.AreWordsForLemmas.{AreWordsFor-none}
use Rattle.naga_sets.proofs.handle_set.HandleSet.clear.Goals as goal

pub invariant_of-self : goal.invariant_of-self
invariant_of-self g c =
    let new = c.clear.new.self in
    AreWordsFor-none c.self.inside.bound new.items (vec_capacity new) c.clear.ensures.items c.self.invariant.small (omega (arith, c.self.invariant.room, c.clear.ensures.capacity))
