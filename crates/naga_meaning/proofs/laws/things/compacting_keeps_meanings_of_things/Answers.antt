use Rattle.naga_meaning.specs.Things.{thing_of}
use Rattle.naga_meaning.proofs.KeepsMeaningsOfLemmas.{KeepsMeaningsOf-of}
use Rattle.naga_meaning.proofs.KeepsThingsLemmas.{KeepsThings-of}
use Rattle.naga_meaning.proofs.laws.things.compacting_keeps_meanings_of_things.Goals as goal

pub returns : goal.returns
returns g c old keep_unused kept new valid compacts place place' keeps =
    KeepsMeaningsOf-of kept (thing_of old place) (thing_of new place') (KeepsThings-of old keep_unused kept new valid compacts place place' keeps) old keep_unused new valid compacts
