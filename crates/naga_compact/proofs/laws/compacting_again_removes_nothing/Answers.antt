use Rattle.naga_compact.proofs.CompactedFunctionLemmas.{CompactsFunction-reached}
use Rattle.naga_compact.proofs.laws.compacting_again_removes_nothing.Goals as goal

pub returns : goal.returns
returns c =
    λ old new last kept kept' first second handle inside. (second.reached handle).1 (CompactsFunction-reached old new kept first handle inside)
