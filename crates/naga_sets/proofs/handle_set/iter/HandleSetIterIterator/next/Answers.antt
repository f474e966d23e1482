use Rattle.std.proofs.Common.{◌≡◌, [], ◌∷◌, ◌-◌, ◌<◌, sym, ap, subst, ◌∙◌, arith, rules}
use Rattle.std.specs.List.{All}
use Rattle.std.specs.Prelude.{bit_and}
use Rattle.naga_sets.specs.Words.{bits_from}
use Rattle.naga_sets.proofs.BitsFromLemmas.{bits_from-next_word, bits_from-no_word, bits_from-lowest, bits_from-first_below, bits_from-later_below}
use Rattle.naga_sets.proofs.handle_set.iter.HandleSetIterIterator.next.Goals as goal
use Rattle.naga_arena.specs.Limits.{max_len}

pub returns-in_err-word-clause-steps : goal.returns-in_err-word-clause-steps
returns-in_err-word-clause-steps g c =
    let it = c.words.self-inside in
    let none : bits_from it.first (it.word ∷ it.rest.now) ≡ [] = bits_from-no_word it.first it.word it.rest.now c.words-test.true c.in_err-word.ensures.cases in
    rw c.from_residual.ensures (sym c.words.invariant.same ∙ none, none)

pub words-preserved : goal.words-preserved
words-preserved g c =
    let it = c.words.self-inside in
    let first_and_rest = c.in_ok-word.ensures.cases in
    record {
      same =
          bits_from-next_word it.first it.word c.in_ok-word.word.now it.rest.now c.in_ok-word.rest.now c.words-test.true first_and_rest.0
          ∙ c.words.invariant.same;
      ends = omega (arith, c.words.invariant.ends, first_and_rest.1);
      word = omega arith;
    }

pub at-requires : goal.at-requires
at-requires g c =
    let it = c.words.self-inside in
    let below : All (λ n. n < max_len) (bits_from it.first (it.word ∷ it.rest.now)) =
    subst (All (λ n. n < max_len)) (c.self.view_is ∙ sym c.words.invariant.same) c.self.invariant.0 in
    bits_from-first_below it.first it.word it.rest.now (omega arith) c.words.invariant.word max_len below

pub invariant_of-self-2 : goal.invariant_of-self-2
invariant_of-self-2 g c =
    let it = c.words.self-inside in
    let below : All (λ n. n < max_len) (bits_from it.first (it.word ∷ it.rest.now)) =
    subst (All (λ n. n < max_len)) (c.self.view_is ∙ sym c.words.invariant.same) c.self.invariant.0 in
    (bits_from-later_below it.first it.word it.rest.now (omega arith) c.words.invariant.word max_len below, c.words.invariant.ends)

pub returns-clause-steps : goal.returns-clause-steps
returns-clause-steps g c =
    let it = c.words.self-inside in
    sym c.words.invariant.same ∙ bits_from-lowest it.first it.word it.rest.now (omega arith) c.words.invariant.word
    ∙ ap (λ n. n ∷ bits_from it.first (bit_and it.word (it.word - 1) ∷ it.rest.now)) (sym c.at.ensures)

pub returns-clause-goes : goal.returns-clause-goes
returns-clause-goes g c =
    let it = c.words.self-inside in
    let step = sym c.words.invariant.same ∙ bits_from-lowest it.first it.word it.rest.now (omega arith) c.words.invariant.word in
    rw step (search rules)
