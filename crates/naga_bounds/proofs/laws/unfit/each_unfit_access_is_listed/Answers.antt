use Rattle.naga_bounds.proofs.UnfitLemmas.{unfit_accesses-length}
use Rattle.naga_bounds.proofs.laws.unfit.each_unfit_access_is_listed.Goals as goal

pub returns : goal.returns
returns c code = unfit_accesses-length code
