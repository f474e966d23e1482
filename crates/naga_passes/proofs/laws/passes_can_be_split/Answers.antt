use Rattle.naga_passes.proofs.AfterLemmas.{After-joined, After-parts}
use Rattle.naga_passes.proofs.laws.passes_can_be_split.Goals as goal

pub returns-clause-split : goal.returns-clause-split
returns-clause-split c = After-parts

pub returns-clause-joined : goal.returns-clause-joined
returns-clause-joined c = After-joined
