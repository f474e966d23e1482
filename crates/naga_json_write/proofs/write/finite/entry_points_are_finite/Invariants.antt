use Rattle.std.proofs.Common.{◌≡◌, drop}
use Rattle.naga_json_write.specs.Finite.{entry_points_are_finite}
use Rattle.naga_json_write.proofs.write.finite.entry_points_are_finite.Given as goal

-- the entry points that are left decide
abbrev pub invariant-loop-entry_point : goal.invariant-loop-entry_point
invariant-loop-entry_point l = entry_points_are_finite (drop l.entry_point-index l.entry_points) ≡ entry_points_are_finite l.entry_points
