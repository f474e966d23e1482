use Rattle.std.proofs.Common.{vec_capacity, arith}
use Rattle.naga_sets.proofs.AreWordsForLemmas.{AreWordsFor-none}
use Rattle.naga_sets.proofs.handle_set.HandleSet.for_arena.Goals as goal

pub invariant_of-result : goal.invariant_of-result
invariant_of-result g c =
    let new = c.in_ok-with_capacity.field-0 in
    AreWordsFor-none c.len-bound.result new.items (vec_capacity new) c.in_ok-with_capacity.ensures.items (omega (arith, c.len-bound.ensures.bound)) (omega (arith, c.words_for.ensures, c.in_ok-with_capacity.ensures.capacity))
