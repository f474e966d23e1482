use Rattle.std.proofs.Common.{◌≡◌, ◌≤◌, ◌++◌, length, take, drop}
use Rattle.naga_flow.specs.Tracking.{Tracks, none_known, seen_by}
use Rattle.naga_flow.proofs.known.Known.doubt_from.Given as goal

abbrev pub invariant-doubtful : goal.invariant-doubtful
invariant-doubtful l = record {
  tracked : Tracks l.self-inside.states.items l.self-inside.order.items;
  from : l.len ≤ l.index;
  within : l.index ≤ length l.self-inside.order.items;
  doubted : seen_by l.self-inside.states.items l.self-inside.order.items ≡ take l.index l.fn.self ++ none_known (drop l.index l.fn.self);
}

abbrev pub decreases-doubtful : goal.decreases-doubtful
decreases-doubtful l = l.index
