use Rattle.naga_meaning.proofs.Uses.CompactedBodiesLemmas.{BodiesPass-compacted}
use Rattle.naga_meaning.proofs.laws.uses.compacting_keeps_bodies.Goals as goal

pub returns : goal.returns
returns c = λ old keep_unused kept new valid compacts pass.
    BodiesPass-compacted old compacts.middle new kept valid compacts.functions compacts.removed pass
