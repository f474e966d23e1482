use Rattle.std.proofs.Common.{◌≢◌, ◌+◌, sym, ap, ◌∙◌, length, get_or, arith}
use Rattle.json_fault.specs.Rest.{text_of}
use Rattle.json_fault.proofs.StepsLemmas
use Rattle.json_fault.proofs.values.word.Goals as goal

pub returns-then-read-text : goal.returns-then-read-text
returns-then-read-text c outer r = StepsLemmas.word-last outer _ _ _ c.requires r (ap (λ text. get_or text c.args.read 0) (sym c.word_text-text.ensures) ∙ c.if-text-read.false) (c.if-read-text.true ∙ ap length c.word_text-text.ensures)

pub returns : goal.returns
returns c outer r = let size = ap length c.word_text-text.ensures in let apart : c.args.read + 1 ≢ length (text_of c.args.word) = λ e. c.if-read-text.false (e ∙ sym size) in StepsLemmas.word-letter outer _ _ _ c.requires r (ap (λ text. get_or text c.args.read 0) (sym c.word_text-text.ensures) ∙ c.if-text-read.false) (omega arith)
