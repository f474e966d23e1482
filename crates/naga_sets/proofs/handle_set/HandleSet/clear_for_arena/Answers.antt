use Rattle.std.proofs.Common.{vec_capacity, arith}
use Rattle.naga_sets.proofs.AreWordsForLemmas.{AreWordsFor-none}
use Rattle.naga_sets.proofs.handle_set.HandleSet.clear_for_arena.Goals as goal

pub invariant_of-self-2 : goal.invariant_of-self-2
invariant_of-self-2 g c =
    let new = c.clear_for.new.words in
    let cleared = c.in_ok-clear_for.ensures in
    AreWordsFor-none c.len-bound.result new.items (vec_capacity new) cleared.cleared (omega (arith, c.len-bound.ensures.bound)) cleared.fits
