use Rattle.json_fault.proofs.StepsLemmas
use Rattle.json_fault.proofs.IsStringLemmas
use Rattle.json_fault.proofs.strings.high_backslash.Goals as goal

pub returns-then-byte-eq117 : goal.returns-then-byte-eq117
returns-then-byte-eq117 c = StepsLemmas.passes-high_backslash _ c.if-byte-eq117.true

pub returns : goal.returns
returns c = record { none = λ rest. IsStringLemmas.high_backslash-other _ rest c.if-byte-eq117.false }
