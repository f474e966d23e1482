use Rattle.naga_typing.proofs.KeptLemmas.{results-kept}
use Rattle.naga_typing.proofs.laws.renaming.results_are_kept.Goals as goal

pub returns : goal.returns
returns c = results-kept
