use Rattle.std.proofs.Common.{◌≡◌, ◌≤◌}
use Rattle.naga_arena.specs.Location.{newlines_before}
use Rattle.naga_arena.proofs.span.count_newlines.Given as goal

-- the number of newlines so far
abbrev pub invariant-loop-byte : goal.invariant-loop-byte
invariant-loop-byte l = record {
  counted : l.newlines ≡ newlines_before l.byte-items l.byte-index;
  bound : l.newlines ≤ l.byte-index;
}
