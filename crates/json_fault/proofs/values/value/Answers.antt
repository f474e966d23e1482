use Rattle.std.proofs.Common.{sym, ◌∙◌, reverse}
use Rattle.json_fault.specs.declared.mode.Mode.TheVariants.{Value, InString}
use Rattle.json_fault.specs.declared.mode.Within.TheVariants as strings
use Rattle.json_fault.proofs.CompletesLemmas
use Rattle.json_fault.proofs.StepsLemmas
use Rattle.json_fault.proofs.values.value.Goals as goal

pub returns-then-is_space : goal.returns-then-is_space
returns-then-is_space c = StepsLemmas.value-space _ _ c.requires (sym c.is_space.ensures ∙ c.if-is_space.true)

pub returns-then-byte-eq34 : goal.returns-then-byte-eq34
returns-then-byte-eq34 c = let outer = reverse c.args.frames.now in StepsLemmas.leads Value (InString strings.Plain) outer _ 34 c.if-byte-eq34.true (CompletesLemmas.value-string outer) (record { shallow = c.requires.shallow; suits = tt })
