use Rattle.std.proofs.Common.{◌<◌, ◌≤◌, ◌/◌, length, sym, arith}
use Rattle.std.proofs.lemmas.Bool.Decides.{nat_tests}
use Rattle.naga_sets.proofs.HasBitLemmas.{has_bit-shifted, has_bit-past}
use Rattle.naga_sets.proofs.handle_set.words.has_bit.Goals as goal

pub returns-in-Some : goal.returns-in-Some
returns-in-Some c =
    let within : c.args.number / 64 < length c.args.words.now = grind (arith, nat_tests, c.in-Some.ensures.lookup.0) in
    has_bit-shifted c.args.words.now c.args.number c.in-Some.word.now within c.in-Some.ensures.lookup.1

pub returns-in-None : goal.returns-in-None
returns-in-None c =
    let past : length c.args.words.now ≤ c.args.number / 64 = grind (arith, nat_tests, c.in-None.ensures.lookup.0) in
    sym (has_bit-past c.args.words.now c.args.number past)
