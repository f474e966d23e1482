-- The faults so far, and those of the types that are left, are all faults.
use Rattle.std.proofs.Common.{◌≡◌, ◌≤◌, [], length, drop}
use Rattle.std.specs.Prelude.{vec_capacity}
use Rattle.naga_arena.specs.Arena.{values}
use Rattle.naga_layouter.specs.Spaces.{all_space_faults}
use Rattle.naga_layouter.proofs.spaces.all_space_faults.Given as goal

abbrev pub invariant-each : goal.invariant-each
invariant-each l = record {
  reached : length l.known.items ≡ l.index;
  room : length l.types ≤ vec_capacity l.known;
  left : all_space_faults l.types l.known.items (drop l.index (values l.types)) ≡ all_space_faults l.types [] (values l.types);
}
