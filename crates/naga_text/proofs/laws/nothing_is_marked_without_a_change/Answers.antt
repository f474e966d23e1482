use Rattle.naga_text.proofs.ModuleTextComparedLemmas.{module_text_compared-itself}
use Rattle.naga_text.proofs.laws.nothing_is_marked_without_a_change.Goals as goal

pub returns : goal.returns
returns c = module_text_compared-itself
