use Rattle.std.proofs.Common.{◌∙◌, sym}
use Rattle.json_fault.proofs.IsReachedLemmas
use Rattle.json_fault.proofs.automaton.may_end.Goals as goal

pub returns-then-is_value : goal.returns-then-is_value
returns-then-is_value c = IsReachedLemmas.may_end-then c.args.mode c.args.frames.now _ c.requires (sym c.is_value.ensures ∙ c.if-is_value.true) c.is_empty.ensures

pub returns-else-is_value : goal.returns-else-is_value
returns-else-is_value c = c.if-is_value.false ∙ IsReachedLemmas.may_end-else c.args.mode c.args.frames.now c.requires (sym c.is_value.ensures ∙ c.if-is_value.false)
