use Rattle.std.proofs.Common.{◌≡◌}
use Rattle.naga_sets.specs.HandleSet.{with_members}
use Rattle.naga_sets.proofs.handle_set.HandleSet.insert_iter.Given as goal

-- the items that were yielded so far are inserted
abbrev pub invariant-items : goal.invariant-items
invariant-items g l = l.self ≡ with_members l.initial.self l.yielded
