use Rattle.naga_bounds.proofs.RestrictedFunctionLemmas.{clamped-emitted}
use Rattle.naga_bounds.proofs.laws.restricting_keeps_uses.Goals as goal

pub returns : goal.returns
returns c whole old new functions within precede typed clamped emitted = clamped-emitted whole old new precede functions within typed clamped emitted
