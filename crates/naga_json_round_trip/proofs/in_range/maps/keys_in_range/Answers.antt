use Rattle.std.proofs.lemmas.List.Elements.{All-cons}
use Rattle.naga_json_round_trip.proofs.in_range.maps.keys_in_range.Goals as goal

pub loop-key-preserved : goal.loop-key-preserved
loop-key-preserved g c = λ each. c.loop-key.invariant (rw c.in-Some.ensures.steps (All-cons g.K.InRange.Fits c.in-Some.key.now c.next.new.self c.in_range.ensures each))
