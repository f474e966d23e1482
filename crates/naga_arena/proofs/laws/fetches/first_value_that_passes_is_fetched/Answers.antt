use Rattle.naga_arena.proofs.FetchesLemmas.{Fetches-found, Fetches-missing}
use Rattle.naga_arena.proofs.laws.fetches.first_value_that_passes_is_fetched.Goals as goal

pub returns-clause-found : goal.returns-clause-found
returns-clause-found g c = λ passes old new value span result handle. Fetches-found passes old value span result new handle

pub returns-clause-missing : goal.returns-clause-missing
returns-clause-missing g c = λ passes old new value span result. Fetches-missing passes old value span result new
