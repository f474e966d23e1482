-- The first fault of the types that are left is that of all.
use Rattle.std.proofs.Common.{◌≡◌, drop}
use Rattle.naga_arena.specs.Arena.{values}
use Rattle.naga_layouter.specs.Faults.{types_fault}
use Rattle.naga_layouter.proofs.faults.types_fault.Given as goal

abbrev pub invariant-each : goal.invariant-each
invariant-each l = types_fault l.types l.known l.index (drop l.index (values l.types)) ≡ types_fault l.types l.known 0 (values l.types)
