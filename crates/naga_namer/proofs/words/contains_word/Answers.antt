use Rattle.std.proofs.Common.{sym, ◌∙◌}
use Rattle.std.specs.Str.{bytes_eq}
use Rattle.naga_namer.proofs.ListAnyLemmas.{any-found, any-none}
use Rattle.naga_namer.proofs.words.contains_word.Goals as goal

pub returns-then-eq : goal.returns-then-eq
returns-then-eq c =
    any-found (λ word. bytes_eq word c.args.text.now) c.args.words.now c.loop-word.word-index _
    c.loop-word-test.true (sym c.eq.ensures ∙ c.if-eq.true)

pub returns : goal.returns
returns c =
    any-none (λ word. bytes_eq word c.args.text.now) c.args.words.now c.loop-word.word-index c.loop-word-test.false
    c.loop-word.invariant
