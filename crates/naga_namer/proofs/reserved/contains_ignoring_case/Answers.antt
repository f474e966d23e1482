use Rattle.std.proofs.Common.{sym, ◌∙◌}
use Rattle.std.specs.Str.{str_eq_ignore_ascii_case}
use Rattle.naga_namer.proofs.ListAnyLemmas.{any-found, any-none}
use Rattle.naga_namer.proofs.reserved.contains_ignoring_case.Goals as goal

pub returns-then-equals_ignoring_case : goal.returns-then-equals_ignoring_case
returns-then-equals_ignoring_case c =
    any-found (λ word. str_eq_ignore_ascii_case word c.args.text.now) c.args.words.now c.loop-word.word-index _
    c.loop-word-test.true (sym c.equals_ignoring_case.ensures ∙ c.if-equals_ignoring_case.true)

pub returns : goal.returns
returns c =
    any-none (λ word. str_eq_ignore_ascii_case word c.args.text.now) c.args.words.now c.loop-word.word-index c.loop-word-test.false
    c.loop-word.invariant
