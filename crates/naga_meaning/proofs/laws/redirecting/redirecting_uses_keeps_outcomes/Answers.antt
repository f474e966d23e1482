use Rattle.naga_flow.specs.Places.{reads_in}
use Rattle.naga_flow.specs.Readings.{expressions_by}
use Rattle.naga_meaning.specs.Readings.{chains_in}
use Rattle.naga_meaning.proofs.IsClosedReadingLemmas.{closed-read}
use Rattle.naga_meaning.proofs.ReadsDecideLemmas.{chains-read}
use Rattle.naga_meaning.proofs.RedirectsLemmas.{outcome-redirected}
use Rattle.naga_meaning.proofs.laws.redirecting.redirecting_uses_keeps_outcomes.Goals as goal

pub returns-clause-closed : goal.returns-clause-closed
returns-clause-closed g c =
    λ look by at_use at_use' old new precede precede' closed closed' r redirects on_plain body red fresh uses uses' turns a b same.
    outcome-redirected look by at_use at_use' old new precede precede' (expressions_by at_use old).reads (expressions_by at_use' new).reads
    (closed-read look by at_use old precede closed) (closed-read look by at_use' new precede' closed') r redirects on_plain body red fresh uses uses' turns a b same

pub returns-clause-chains : goal.returns-clause-chains
returns-clause-chains g c =
    λ look by old new precede precede' indices indices' r redirects on_plain body red fresh uses uses' turns a b same.
    outcome-redirected look by (chains_in old) (chains_in new) old new precede precede' (reads_in old) (reads_in new) (chains-read look by old precede indices) (chains-read look by new precede' indices')
    r redirects on_plain body red fresh uses uses' turns a b same
