use Rattle.naga_bounds.proofs.UnfitLemmas.{unfit_accesses-none}
use Rattle.naga_bounds.proofs.laws.unfit.functions_without_unfit_accesses_fit.Goals as goal

pub returns : goal.returns
returns c code = unfit_accesses-none code
