use Rattle.std.proofs.Common.{◌≡◌, ◌++◌, drop, map, Some}
use Rattle.json.specs.Value.{items_view}
use Rattle.naga_json.specs.Numbers.{◌>>=◌}
use Rattle.naga_json.specs.Lists.{each_of}
use Rattle.naga_json_read.proofs.read.lists.read_each.Given as goal

abbrev pub invariant-loop-item : goal.invariant-loop-item
invariant-loop-item g l = each_of g.T.FromJson.meaning (items_view l.items.items) ≡ (each_of g.T.FromJson.meaning (items_view (drop l.item-index l.items.items)) >>= λ rest. Some (map g.T.FromJson.value_of l.list.items ++ rest))
