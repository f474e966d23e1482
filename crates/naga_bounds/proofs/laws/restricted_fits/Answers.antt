use Rattle.naga_bounds.proofs.RestrictedFunctionLemmas.{clamped-fit}
use Rattle.naga_bounds.proofs.laws.restricted_fits.Goals as goal

pub returns : goal.returns
returns c whole old new precede typed clamped = clamped-fit whole old new precede typed clamped
