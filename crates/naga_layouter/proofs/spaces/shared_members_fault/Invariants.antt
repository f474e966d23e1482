-- The first fault of the members that are left is that of all.
use Rattle.std.proofs.Common.{◌≡◌, drop}
use Rattle.naga_layouter.specs.Spaces.{shared_members_fault}
use Rattle.naga_layouter.proofs.spaces.shared_members_fault.Given as goal

abbrev pub invariant-each : goal.invariant-each
invariant-each l = shared_members_fault l.known (drop l.index l.members) ≡ shared_members_fault l.known l.members
