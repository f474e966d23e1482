use Rattle.std.proofs.Common.{◌≡◌, ◌≤◌, ◌*◌, take}
use Rattle.std.specs.List.{sum_by}
use Rattle.naga_bounds.specs.Restricted.{front_count}
use Rattle.naga_bounds.proofs.plan.front_len.Given as goal

-- the total is that of the changes before this one
abbrev pub invariant-changes : goal.invariant-changes
invariant-changes l = (l.total ≡ sum_by front_count (take l.change-index l.changes)) × (l.total ≤ 3 * l.change-index)
