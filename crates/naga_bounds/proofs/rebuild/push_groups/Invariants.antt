use Rattle.std.proofs.Common.{◌≡◌, ◌++◌, ◌-◌, length}
use Rattle.std.specs.List.{zip}
use Rattle.naga_bounds.specs.Restricted.{front_len, groups, moving}
use Rattle.naga_bounds.proofs.GroupsLemmas.{IsMovedTo}
use Rattle.naga_bounds.proofs.rebuild.push_groups.Given as goal

-- what is in the places of the expressions that are left is still to be appended
abbrev pub invariant-expressions : goal.invariant-expressions
invariant-expressions l = record {
  moved : IsMovedTo (moving l.plan) l.plan l.fn.old
      (l.fn.building.entries ++ groups (moving l.plan) (zip l.plan l.fn.old) 0 (front_len l.plan))
      (length l.fn.old - length l.handle-iterator) l.handle-iterator l.building.entries l.front;
  capacity : l.building.capacity ≡ l.fn.building.capacity;
}
