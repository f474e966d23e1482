use Rattle.std.proofs.Common.{refl}
use Rattle.naga_runs.specs.Runs.{entered}
use Rattle.naga_wgsl.proofs.laws.examples.text_examples_are_computed.Goals as goal

pub returns-clause-switched : goal.returns-clause-switched
unfolding entered
returns-clause-switched c = refl
