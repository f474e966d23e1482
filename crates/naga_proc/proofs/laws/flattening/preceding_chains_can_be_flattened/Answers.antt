use Rattle.naga_proc.proofs.Flattening.CanFlattenLemmas.{CanFlatten-always}
use Rattle.naga_proc.proofs.laws.flattening.preceding_chains_can_be_flattened.Goals as goal

pub returns : goal.returns
returns c = CanFlatten-always
