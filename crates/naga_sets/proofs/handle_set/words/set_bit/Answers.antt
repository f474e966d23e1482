use Rattle.std.proofs.Common.{◌<◌, ◌/◌, not, length, ap, ◌∙◌, arith}
use Rattle.std.specs.FinSet as set
use Rattle.naga_sets.proofs.BitSetLemmas.{contains-bit_set_masked, bit_set-insert}
use Rattle.naga_sets.proofs.handle_set.words.set_bit.Goals as goal

pub returns-clause-is_new : goal.returns-clause-is_new
returns-clause-is_new c =
    let within : c.args.number / 64 < length c.extend_to.new.words.items = omega (arith, c.in_ok-extend_to.ensures.len) in
    contains-bit_set_masked c.extend_to.new.words.items c.args.number c.index.result.now within c.index.ensures
    ∙ ap (λ s. not (set.contains s c.args.number)) c.extend_to.ensures.same

pub returns-clause-inserted : goal.returns-clause-inserted
returns-clause-inserted c =
    let within : c.args.number / 64 < length c.extend_to.new.words.items = omega (arith, c.in_ok-extend_to.ensures.len) in
    bit_set-insert c.extend_to.new.words.items c.args.number c.index_mut.result.now within c.index_mut.ensures.value
    ∙ ap (λ s. set.insert s c.args.number) c.extend_to.ensures.same
