use Rattle.std.proofs.Common.{◌≡◌, ◌++◌, take}
use Rattle.std.specs.List.{zip}
use Rattle.naga_bounds.specs.Restricted.{fronts}
use Rattle.naga_bounds.proofs.rebuild.push_fronts.Given as goal

-- what the expressions before this one have at the front is there
abbrev pub invariant-expressions : goal.invariant-expressions
invariant-expressions l = record {
  done : l.building.entries ≡ l.fn.building.entries ++ fronts (take l.index (zip l.plan l.old));
  capacity : l.building.capacity ≡ l.fn.building.capacity;
}
