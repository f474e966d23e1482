use Rattle.naga_meaning.proofs.RedirectsFunctionLemmas.{meaning-by_chains, meaning-by_closed}
use Rattle.naga_meaning.proofs.laws.redirecting.redirected_functions_keep_their_meanings.Goals as goal

pub returns-clause-chains : goal.returns-clause-chains
returns-clause-chains g c =
    λ r old new redirects precede precede' indices fresh uses uses' look by steady.
    meaning-by_chains r old new redirects precede precede' fresh look by indices uses uses' steady

pub returns-clause-closed : goal.returns-clause-closed
returns-clause-closed g c =
    λ r old new redirects precede precede' at_use closed redirected fresh uses uses' look by steady.
    meaning-by_closed r old new redirects precede precede' fresh look by at_use closed redirected uses uses' steady
