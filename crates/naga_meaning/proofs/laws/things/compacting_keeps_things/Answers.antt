use Rattle.naga_meaning.proofs.KeepsThingsLemmas.{KeepsThings-of}
use Rattle.naga_meaning.proofs.laws.things.compacting_keeps_things.Goals as goal

pub returns : goal.returns
returns g c old keep_unused kept new valid compacts place place' keeps = KeepsThings-of old keep_unused kept new valid compacts place place' keeps
