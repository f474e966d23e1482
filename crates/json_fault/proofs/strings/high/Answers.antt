use Rattle.json_fault.proofs.StepsLemmas
use Rattle.json_fault.proofs.IsStringLemmas
use Rattle.json_fault.proofs.strings.high.Goals as goal

pub returns-then-byte-eq92 : goal.returns-then-byte-eq92
returns-then-byte-eq92 c = StepsLemmas.passes-high _ c.if-byte-eq92.true

pub returns : goal.returns
returns c = record { none = λ rest. IsStringLemmas.high-other _ rest c.if-byte-eq92.false }
