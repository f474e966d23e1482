use Rattle.naga_proc.proofs.Flattening.NestsNarrowerLemmas.{NestsNarrower-by_components}
use Rattle.naga_proc.proofs.laws.flattening.components_that_nest_narrower_do_so_together.Goals as goal

pub returns : goal.returns
returns c = NestsNarrower-by_components
