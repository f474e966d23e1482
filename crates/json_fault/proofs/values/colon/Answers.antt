use Rattle.std.proofs.Common.{sym, ◌∙◌}
use Rattle.json_fault.specs.declared.mode.Mode.TheVariants.{Value, Colon}
use Rattle.json_fault.proofs.CompletesLemmas
use Rattle.json_fault.proofs.StepsLemmas
use Rattle.json_fault.proofs.values.colon.Goals as goal

pub returns-then-is_space : goal.returns-then-is_space
returns-then-is_space c outer r = StepsLemmas.colon-space outer _ r (sym c.is_space.ensures ∙ c.if-is_space.true)

pub returns-then-byte-eq58 : goal.returns-then-byte-eq58
returns-then-byte-eq58 c outer r = StepsLemmas.leads Colon Value outer _ 58 c.if-byte-eq58.true (CompletesLemmas.colon-colon outer) (record { shallow = r.shallow; suits = tt })

pub returns : goal.returns
returns c outer r = record { none = λ rest. CompletesLemmas.colon-other outer c.args.byte rest (sym c.is_space.ensures ∙ c.if-is_space.false) c.if-byte-eq58.false }
