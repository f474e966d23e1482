-- The first fault of the members that are left is that of all.
use Rattle.std.proofs.Common.{◌≡◌, drop}
use Rattle.naga_layouter.specs.Spaces.{uniform_members_fault}
use Rattle.naga_layouter.proofs.spaces.uniform_members_fault.Given as goal

abbrev pub invariant-each : goal.invariant-each
invariant-each l = uniform_members_fault l.types l.known l.ty l.index l.least (drop l.index l.members)
    ≡ uniform_members_fault l.types l.known l.ty 0 0 l.members
