use Rattle.naga_meaning.proofs.CalledLemmas.{meaning-called, meaning-called_closed}
use Rattle.naga_meaning.proofs.laws.calls.calls_keep_meanings.Goals as goal

pub returns-clause-same : goal.returns-clause-same
returns-clause-same g c = meaning-called

pub returns-clause-to_callers : goal.returns-clause-to_callers
returns-clause-to_callers g c = meaning-called_closed
