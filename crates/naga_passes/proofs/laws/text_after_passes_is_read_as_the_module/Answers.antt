use Rattle.naga_passes.proofs.TextLemmas.{module_in_text-written}
use Rattle.naga_passes.proofs.laws.text_after_passes_is_read_as_the_module.Goals as goal

pub returns : goal.returns
returns c = module_in_text-written
