use Rattle.naga_bounds.proofs.RestrictedFunctionLemmas.{clamped-precede}
use Rattle.naga_bounds.proofs.laws.restricted_operands_precede.Goals as goal

pub returns : goal.returns
returns c whole old new precede clamped = clamped-precede whole old new precede clamped
