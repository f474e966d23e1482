use Rattle.std.proofs.Common.{◌≡◌, ◌+◌, ◌<◌, ℕ, get_or, length}
use Rattle.std.specs.Prelude.{vec_capacity}
use Rattle.naga_bounds.specs.Restricted.{start_of}
use Rattle.naga_bounds.proofs.plan.starts.Given as goal

-- the starts of the changes before this one are there, with memory for the others
abbrev pub invariant-changes : goal.invariant-changes
invariant-changes l = record {
  next : l.next ≡ start_of l.changes l.change-index;
  len : length l.starts.items ≡ l.change-index;
  each : (index : ℕ) → index < l.change-index → get_or l.starts.items index 0 ≡ start_of l.changes index;
  room : vec_capacity l.starts ≡ length l.changes + 1;
}
