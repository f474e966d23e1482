use Rattle.naga_typing.proofs.FitsRenamedLemmas.{Fits-renamed}
use Rattle.naga_typing.proofs.laws.requirements.renamed_requirements_are_met.Goals as goal

pub returns : goal.returns
returns c = Fits-renamed
