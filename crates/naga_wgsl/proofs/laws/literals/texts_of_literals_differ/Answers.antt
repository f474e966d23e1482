use Rattle.naga_wgsl.proofs.SameLiteralsLemmas.{same-literal}
use Rattle.naga_wgsl.proofs.laws.literals.texts_of_literals_differ.Goals as goal

pub returns : goal.returns
returns c = λ one other text. same-literal one other text
