-- The first fault of the members that are left is that of all, and the members before end at or before the structure.
use Rattle.std.proofs.Common.{◌≡◌, ◌≤◌, length, drop}
use Rattle.naga_layouter.specs.Faults.{members_fault}
use Rattle.naga_layouter.proofs.faults.members_fault.Given as goal

abbrev pub invariant-each : goal.invariant-each
invariant-each l = record {
  left : members_fault l.types l.known l.ty l.span (length l.members) l.index l.start (drop l.index l.members)
      ≡ members_fault l.types l.known l.ty l.span (length l.members) 0 0 l.members;
  within : l.start ≤ l.span;
}
