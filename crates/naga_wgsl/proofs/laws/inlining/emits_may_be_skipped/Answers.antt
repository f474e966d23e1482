use Rattle.naga_wgsl.proofs.SkippingLemmas.{outcome-skipped}
use Rattle.naga_wgsl.proofs.laws.inlining.emits_may_be_skipped.Goals as goal

pub returns : goal.returns
returns g c = λ parts by code skipped back only turns body a b state values. outcome-skipped parts by code back skipped only turns body a b (state, values)
