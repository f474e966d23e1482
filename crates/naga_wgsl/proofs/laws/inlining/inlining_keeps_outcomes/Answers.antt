use Rattle.naga_flow.specs.Places.{reads_in}
use Rattle.naga_flow.specs.Readings.{expressions_by}
use Rattle.naga_meaning.specs.Readings.{chains_in}
use Rattle.naga_wgsl.proofs.MayInlineLemmas.{outcome-inlined}
use Rattle.naga_meaning.proofs.IsClosedReadingLemmas.{closed-read}
use Rattle.naga_meaning.proofs.ReadsDecideLemmas.{chains-read}
use Rattle.naga_wgsl.proofs.laws.inlining.inlining_keeps_outcomes.Goals as goal

pub returns-clause-closed : goal.returns-clause-closed
returns-clause-closed g c =
    λ look by at_use inline arena precede closed may body fresh uses turns a b same.
    outcome-inlined look by at_use inline arena precede (expressions_by at_use arena).reads (closed-read look by at_use arena precede closed) may body fresh uses turns a b same

pub returns-clause-chains : goal.returns-clause-chains
returns-clause-chains g c =
    λ look by inline arena precede indices may body fresh uses turns a b same.
    outcome-inlined look by (chains_in arena) inline arena precede (reads_in arena) (chains-read look by arena precede indices) may body fresh uses turns a b same
