use Rattle.std.proofs.Common.{◌≤◌, length}
use Rattle.naga_arena.specs.Limits.{max_len}
use Rattle.naga_ir.specs.Types.{type_of}
use Rattle.naga_json.specs.Arenas.{arena_value, without_span}
use Rattle.naga_json.specs.Types.{type_codec}
use Rattle.naga_json_types.specs.Arenas.{AreDistinct}
use Rattle.naga_json_tokens.proofs.TakesItems.{TakesItems}
use Rattle.naga_json_types.proofs.taken.take_types_field.Given as goal

-- the types before the next one were taken, and no two of them are the same
abbrev pub invariant-items : goal.invariant-items
invariant-items l = record {
  taken : TakesItems (without_span type_codec.decode) (arena_value type_of l.types) l.initial.reader l.reader;
  distinct : AreDistinct (arena_value type_of l.types);
  short : length l.types ≤ max_len;
}

abbrev pub decreases-items : goal.decreases-items
decreases-items l = length l.reader
