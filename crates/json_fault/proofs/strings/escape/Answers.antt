use Rattle.std.proofs.Common.{sym, ◌∙◌}
use Rattle.json_fault.proofs.StepsLemmas
use Rattle.json_fault.proofs.strings.escape.Goals as goal

pub returns-then-byte-eq117 : goal.returns-then-byte-eq117
returns-then-byte-eq117 c = StepsLemmas.passes-u _ c.if-byte-eq117.true

pub returns-then-is_short_escape : goal.returns-then-is_short_escape
returns-then-is_short_escape c = StepsLemmas.passes-short _ c.if-byte-eq117.false (sym c.is_short_escape.ensures ∙ c.if-is_short_escape.true)

pub returns : goal.returns
returns c = StepsLemmas.no-escape _ c.if-byte-eq117.false (sym c.is_short_escape.ensures ∙ c.if-is_short_escape.false)
