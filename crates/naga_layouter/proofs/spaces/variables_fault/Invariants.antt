-- The first fault of the variables that are left is that of all.
use Rattle.std.proofs.Common.{◌≡◌, drop}
use Rattle.naga_arena.specs.Arena.{values}
use Rattle.naga_layouter.specs.Spaces.{variables_fault}
use Rattle.naga_layouter.proofs.spaces.variables_fault.Given as goal

abbrev pub invariant-each : goal.invariant-each
invariant-each l = variables_fault l.known (drop l.index (values l.variables)) ≡ variables_fault l.known (values l.variables)
