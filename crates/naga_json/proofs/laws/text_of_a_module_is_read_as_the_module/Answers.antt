use Rattle.naga_json.proofs.UnspannedLemmas.{module_text}
use Rattle.naga_json.proofs.laws.text_of_a_module_is_read_as_the_module.Goals as goal

pub returns : goal.returns
returns c = module_text
