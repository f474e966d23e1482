use Rattle.std.proofs.Common.{sym, ◌∙◌}
use Rattle.json_fault.proofs.StepsLemmas
use Rattle.json_fault.proofs.values.key.Goals as goal

pub returns-then-is_space : goal.returns-then-is_space
returns-then-is_space c outer r = StepsLemmas.key-space outer _ r (sym c.is_space.ensures ∙ c.if-is_space.true)

pub returns-then-byte-eq34 : goal.returns-then-byte-eq34
returns-then-byte-eq34 c outer r = StepsLemmas.key-string outer _ r c.if-byte-eq34.true

pub returns : goal.returns
returns c outer r = StepsLemmas.key-other outer _ r (sym c.is_space.ensures ∙ c.if-is_space.false) c.if-byte-eq34.false
