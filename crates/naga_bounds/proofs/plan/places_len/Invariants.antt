use Rattle.std.proofs.Common.{◌≡◌, ◌≤◌, ◌*◌, take}
use Rattle.std.specs.List.{sum_by}
use Rattle.naga_bounds.specs.Restricted.{width}
use Rattle.naga_bounds.proofs.plan.places_len.Given as goal

-- the total is that of the changes before this one
abbrev pub invariant-changes : goal.invariant-changes
invariant-changes l = (l.total ≡ sum_by width (take l.change-index l.changes)) × (l.total ≤ 5 * l.change-index)
