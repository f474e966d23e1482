use Rattle.naga_bounds.proofs.RestrictedFunctionLemmas.{restricted-again, restricted-stays}
use Rattle.naga_bounds.proofs.laws.restricting_twice.Goals as goal

pub returns : goal.returns
returns c whole old new functions within precede restricts =
    (restricted-again whole old new precede restricts functions within, restricted-stays whole old new precede restricts)
