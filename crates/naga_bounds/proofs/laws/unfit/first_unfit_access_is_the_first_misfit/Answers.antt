use Rattle.naga_bounds.proofs.UnfitLemmas.{unfit_accesses-first}
use Rattle.naga_bounds.proofs.laws.unfit.first_unfit_access_is_the_first_misfit.Goals as goal

pub returns : goal.returns
returns c code first rest is = unfit_accesses-first code first rest is
