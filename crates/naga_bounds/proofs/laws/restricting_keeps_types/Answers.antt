use Rattle.naga_bounds.proofs.KeepsTypesLemmas.{typed-kept, types-kept}
use Rattle.naga_bounds.proofs.laws.restricting_keeps_types.Goals as goal

pub returns : goal.returns
returns c whole old new precede typed clamped = (typed-kept whole old new precede typed clamped, types-kept whole old new precede typed clamped)
