use Rattle.json_fault.proofs.StepsLemmas
use Rattle.json_fault.proofs.IsStringLemmas
use Rattle.json_fault.proofs.strings.plain.Goals as goal

pub returns-then-byte-eq92 : goal.returns-then-byte-eq92
returns-then-byte-eq92 c = StepsLemmas.passes-backslash _ c.if-byte-eq92.true

pub returns-then-byte-lt32 : goal.returns-then-byte-lt32
returns-then-byte-lt32 c = record { none = λ rest. IsStringLemmas.plain-control c.args.byte rest c.if-byte-lt32.true }

pub returns : goal.returns
returns c = StepsLemmas.passes-plain _ c.requires c.if-byte-eq92.false c.if-byte-lt32.false
