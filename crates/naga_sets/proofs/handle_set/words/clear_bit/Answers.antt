use Rattle.std.proofs.Common.{◌<◌, ◌≤◌, ◌/◌, not, length, sym, ap, ◌∙◌, arith}
use Rattle.std.proofs.Math.Bool.{not-not}
use Rattle.std.specs.FinSet as set
use Rattle.naga_sets.specs.Words.{bit_set}
use Rattle.naga_sets.proofs.BitSetLemmas.{contains-bit_set_masked, contains-bit_set_past, remove-bit_set_past, bit_set-remove}
use Rattle.naga_sets.proofs.handle_set.words.clear_bit.Goals as goal

pub returns-then-position-len-clause-was_set : goal.returns-then-position-len-clause-was_set
returns-then-position-len-clause-was_set c =
    let past : length c.args.words.now.items ≤ c.args.number / 64 = omega (arith, c.args.words.now.ok.0) in
    sym (contains-bit_set_past c.args.words.now.items c.args.number past)

pub returns-then-position-len-clause-removed : goal.returns-then-position-len-clause-removed
returns-then-position-len-clause-removed c =
    let past : length c.args.words.now.items ≤ c.args.number / 64 = omega (arith, c.args.words.now.ok.0) in
    sym (remove-bit_set_past c.args.words.now.items c.args.number past)

pub returns-clause-was_set : goal.returns-clause-was_set
returns-clause-was_set c =
    let within : c.args.number / 64 < length c.args.words.now.items = omega (arith, c.args.words.now.ok.0) in
    ap not (contains-bit_set_masked c.args.words.now.items c.args.number c.index.result.now within c.index.ensures) ∙ not-not (set.contains (bit_set c.args.words.now.items) c.args.number)

pub returns-clause-removed : goal.returns-clause-removed
returns-clause-removed c =
    let within : c.args.number / 64 < length c.args.words.now.items = omega (arith, c.args.words.now.ok.0) in
    bit_set-remove c.args.words.now.items c.args.number c.index_mut.result.now within c.index_mut.ensures.value
