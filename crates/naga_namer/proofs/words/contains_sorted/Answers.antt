use Rattle.std.proofs.Common.{◌∙◌, sym, arith}
use Rattle.naga_namer.proofs.SearchLemmas.{missing, not-below, searched}
use Rattle.naga_namer.proofs.words.contains_sorted.Goals as goal

pub returns-then-index-words : goal.returns-then-index-words
returns-then-index-words c =
    searched c.args.text.now c.args.words.now c.requires _ c.first_not_before-index.ensures _ c.if-index-words.true _ (sym c.eq.ensures)

pub returns-else-index-words : goal.returns-else-index-words
returns-else-index-words c =
    not-below c.first_not_before-index.result _ c.if-index-words.false
    ∙ missing c.args.text.now c.args.words.now c.requires _ c.first_not_before-index.ensures c.args.text
    (λ within. absurd (omega (arith, within, c.if-index-words.false)))
