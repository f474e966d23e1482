use Rattle.naga_wgsl.proofs.ScalarTextLemmas.{scalar_text-same}
use Rattle.naga_wgsl.proofs.laws.types.names_of_scalars_differ.Goals as goal

pub returns : goal.returns
returns c = λ one other text. scalar_text-same one other text
