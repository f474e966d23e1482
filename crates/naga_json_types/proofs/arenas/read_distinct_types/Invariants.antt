use Rattle.std.proofs.Common.{◌≡◌, ◌++◌, drop, length, Some}
use Rattle.json.specs.Value.{items_view}
use Rattle.naga_ir.specs.Types.{type_of}
use Rattle.naga_json.specs.Numbers.{◌>>=◌}
use Rattle.naga_json_types.specs.Arenas.{AreDistinct}
use Rattle.naga_json.specs.Arenas.{arena_value, without_span}
use Rattle.naga_json.specs.Lists.{each_of}
use Rattle.naga_json.specs.Types.{type_codec}
use Rattle.naga_json_types.proofs.arenas.read_distinct_types.Given as goal

abbrev pub invariant-loop-item : goal.invariant-loop-item
invariant-loop-item l = record {
  read : each_of (without_span type_codec.decode) (items_view l.items.items) ≡ (each_of (without_span type_codec.decode) (items_view (drop l.item-index l.items.items)) >>= λ rest. Some (arena_value type_of l.types ++ rest));
  distinct : AreDistinct (arena_value type_of l.types);
  len : length l.types ≡ l.item-index;
}
