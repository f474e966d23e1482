use Rattle.naga_passes.proofs.BodiesComeFromLemmas.{BodiesComeFrom-transformed}
use Rattle.naga_passes.proofs.laws.each_pass_transforms_each_body.Goals as goal

pub returns : goal.returns
returns c = BodiesComeFrom-transformed
