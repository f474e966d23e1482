use Rattle.std.proofs.Common.{◌<◌, sym, subst}
use Rattle.std.specs.List.{All}
use Rattle.naga_sets.proofs.BitsFromLemmas.{bits_from-begins, bits_from-begins_empty}
use Rattle.naga_sets.proofs.handle_set.iter.first_word.Goals as goal
use Rattle.naga_arena.specs.Limits.{max_len}

pub returns-in-Some-clause-same : goal.returns-in-Some-clause-same
returns-in-Some-clause-same c = bits_from-begins c.args.words.now c.in-Some.rest.now c.in-Some.word.now c.in-Some.ensures.cases.0

pub returns-in-Some-clause-below : goal.returns-in-Some-clause-below
returns-in-Some-clause-below c =
    subst (All (λ n. n < max_len)) (sym (bits_from-begins c.args.words.now c.in-Some.rest.now c.in-Some.word.now c.in-Some.ensures.cases.0)) c.requires

pub returns-in-None-clause-same : goal.returns-in-None-clause-same
returns-in-None-clause-same c = bits_from-begins_empty c.args.words.now c.in-None.ensures.cases

pub returns-in-None-clause-below : goal.returns-in-None-clause-below
returns-in-None-clause-below c = subst (All (λ n. n < max_len)) (sym (bits_from-begins_empty c.args.words.now c.in-None.ensures.cases)) c.requires
