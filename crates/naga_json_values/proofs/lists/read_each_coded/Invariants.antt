use Rattle.std.proofs.Common.{◌≡◌, ◌++◌, drop, Some}
use Rattle.json.specs.Value.{items_view}
use Rattle.naga_json.specs.Numbers.{◌>>=◌}
use Rattle.naga_json.specs.Lists.{each_of}
use Rattle.naga_json_values.proofs.lists.read_each_coded.Given as goal

abbrev pub invariant-loop-item : goal.invariant-loop-item
invariant-loop-item g l = each_of g.T.Coded.codec.decode (items_view l.items.items) ≡ (each_of g.T.Coded.codec.decode (items_view (drop l.item-index l.items.items)) >>= λ rest. Some (l.list.items ++ rest))
