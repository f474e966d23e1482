use Rattle.std.proofs.Common.{vec_capacity, ap, ◌∙◌, arith}
use Rattle.std.specs.FinSet as set
use Rattle.naga_sets.proofs.AreWordsForLemmas.{AreWordsFor-unchanged, AreWordsFor-remove}
use Rattle.naga_sets.proofs.IsGreatestLemmas.{len-remove_greatest}
use Rattle.naga_sets.specs.Words.{bit_set}
use Rattle.naga_sets.proofs.handle_set.HandleSet.pop.Goals as goal

pub invariant_of-self : goal.invariant_of-self
invariant_of-self g c =
    let old = c.self.inside.words in
    let new = c.last_bit.new.words in
    let last = c.last_bit.ensures in
    AreWordsFor-unchanged c.self.inside.bound old.items new.items (vec_capacity old) (vec_capacity new) c.self.invariant last.same last.len last.capacity

pub invariant_of-self-2 : goal.invariant_of-self-2
invariant_of-self-2 g c =
    let old = c.self.inside.words in
    let cut = c.last_bit.new.words in
    let new = c.clear_bit.new.words in
    let last = c.last_bit.ensures in
    let kept = AreWordsFor-unchanged c.self.inside.bound old.items cut.items (vec_capacity old) (vec_capacity cut) c.self.invariant last.same last.len last.capacity in
    AreWordsFor-remove c.self.inside.bound c.in_ok-index.index cut.items new.items (vec_capacity cut) (vec_capacity new)
    kept c.clear_bit.ensures.removed (omega (arith, c.clear_bit.ensures.len)) c.clear_bit.ensures.capacity

pub returns-clause-fewer : goal.returns-clause-fewer
returns-clause-fewer g c =
    let removed = c.clear_bit.ensures.removed ∙ ap (λ s. set.remove s c.in_ok-index.index) c.last_bit.ensures.same in
    rw (← c.self.view_is)
    (len-remove_greatest (bit_set c.self.inside.words.items) (bit_set c.clear_bit.new.words.items) c.in_ok-index.index c.in_ok-index.ensures.greatest removed)
