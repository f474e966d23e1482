use Rattle.std.proofs.Common.{◌≡◌, ◌++◌, drop, length, Some}
use Rattle.json.specs.Value.{items_view}
use Rattle.naga_json.specs.Numbers.{◌>>=◌}
use Rattle.naga_json.specs.Arenas.{arena_value, without_span}
use Rattle.naga_json.specs.Lists.{each_of}
use Rattle.naga_json_read.proofs.read.arenas.read_values.Given as goal

abbrev pub invariant-loop-item : goal.invariant-loop-item
invariant-loop-item g l = record {
  read : each_of (without_span g.T.FromJson.meaning) (items_view l.items.items) ≡ (each_of (without_span g.T.FromJson.meaning) (items_view (drop l.item-index l.items.items)) >>= λ rest. Some (arena_value g.T.FromJson.value_of l.arena ++ rest));
  len : length l.arena ≡ l.item-index;
}
