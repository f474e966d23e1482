use Rattle.std.proofs.Common.{sym, ◌∙◌}
use Rattle.json_fault.proofs.StepsLemmas
use Rattle.json_fault.proofs.values.first_item.Goals as goal

pub returns-then-is_space : goal.returns-then-is_space
returns-then-is_space c = StepsLemmas.item-space _ _ c.requires (sym c.is_space.ensures ∙ c.if-is_space.true)

pub returns-then-byte-eq93 : goal.returns-then-byte-eq93
returns-then-byte-eq93 c = StepsLemmas.item-end _ _ c.requires c.if-byte-eq93.true

pub returns : goal.returns
returns c = StepsLemmas.item-value _ _ _ c.requires (sym c.is_space.ensures ∙ c.if-is_space.false) c.if-byte-eq93.false c.value.ensures
