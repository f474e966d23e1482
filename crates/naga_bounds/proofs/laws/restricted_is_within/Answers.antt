use Rattle.naga_bounds.proofs.ClampedIsWithinLemmas.{FunctionIsWithin-clamped}
use Rattle.naga_bounds.proofs.laws.restricted_is_within.Goals as goal

pub returns : goal.returns
returns c whole old new functions precede clamped within = FunctionIsWithin-clamped whole old new precede clamped functions within
