use Rattle.std.proofs.Common.{◌≡◌, ◌<◌, sym, ◌∙◌, arith, vec_len}
use Rattle.std.proofs.lemmas.Bool.Decides.{nat_tests}
use Rattle.naga_sets.proofs.BitSetLemmas.{bit_set-popped, bit_set-none}
use Rattle.naga_sets.proofs.IsGreatestLemmas.{IsGreatest-last_word}
use Rattle.naga_sets.specs.Words.{bit_set}
use Rattle.naga_sets.proofs.handle_set.words.last_bit.Goals as goal

pub returns-then-word-ne0-clause-greatest : goal.returns-then-word-ne0-clause-greatest
returns-then-word-ne0-clause-greatest c =
    let some : 0 < c.len-last.result = grind (arith, nat_tests, c.is_empty.ensures, c.words-test.true) in
    IsGreatest-last_word c.words.words.items (bit_set c.args.words.now.items) c.len-last.result c.index-word.result.now
    c.words.invariant.same (c.len-last.ensures ∙ c.words.words.ok.0) some c.index-word.ensures (omega arith) (omega arith)

pub words-preserved : goal.words-preserved
words-preserved c =
    let some : 0 < c.len-last.result = grind (arith, nat_tests, c.is_empty.ensures, c.words-test.true) in
    record {
      same =
          bit_set-popped c.words.words.items c.pop.new.self.items c.len-last.result c.index-word.result.now
          (c.len-last.ensures ∙ c.words.words.ok.0) some c.index-word.ensures c.if-word-ne0.false (rw (← c.len-last.ensures) at c.pop.ensures.rest)
          ∙ c.words.invariant.same;
      len = omega (arith, c.words.words.ok.0, c.pop.new.self.ok.0, c.words.invariant.len, c.pop.ensures.len);
      capacity = c.pop.ensures.capacity ∙ c.words.invariant.capacity;
    }

pub returns-clause-none : goal.returns-clause-none
returns-clause-none c =
    let none : vec_len c.words.words ≡ 0 = grind (arith, nat_tests, c.is_empty.ensures, c.words-test.false) in
    sym c.words.invariant.same ∙ bit_set-none c.words.words.items (sym c.words.words.ok.0 ∙ none)
