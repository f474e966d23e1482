use Rattle.std.proofs.Common.{◌≡◌, ◌≤◌, length, take}
use Rattle.naga_flow.specs.Tracking.{Tracks, seen_by}
use Rattle.naga_flow.proofs.known.Known.forget_from.Given as goal

abbrev pub invariant-newest : goal.invariant-newest
invariant-newest l = record {
  tracked : Tracks l.self-inside.states.items l.self-inside.order.items;
  within : l.len ≤ length l.self-inside.order.items;
  first : take l.len (seen_by l.self-inside.states.items l.self-inside.order.items) ≡ take l.len l.fn.self;
}

abbrev pub decreases-newest : goal.decreases-newest
decreases-newest l = length l.self-inside.order.items
