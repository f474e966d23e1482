use Rattle.std.proofs.Common.{◌≤◌, length}
use Rattle.naga_arena.specs.Limits.{max_len}
use Rattle.naga_json.specs.Arenas.{arena_value, without_span}
use Rattle.naga_json_tokens.proofs.TakesItems.{TakesItems}
use Rattle.naga_json_read.proofs.take.lists.take_arena_field.Given as goal

abbrev pub invariant-items : goal.invariant-items
invariant-items g l = record {
  taken : TakesItems (without_span g.T.FromJson.meaning) (arena_value g.T.FromJson.value_of l.arena) l.initial.reader l.reader;
  short : length l.arena ≤ max_len;
}

abbrev pub decreases-items : goal.decreases-items
decreases-items g l = length l.reader
