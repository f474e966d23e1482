use Rattle.naga_meaning.proofs.Uses.EvaluatesBeforeUseLemmas.{EvaluatesBeforeUse-passes}
use Rattle.naga_meaning.proofs.laws.uses.evaluating_before_use_passes.Goals as goal

pub returns : goal.returns
returns c = λ commands whole. EvaluatesBeforeUse-passes commands whole
