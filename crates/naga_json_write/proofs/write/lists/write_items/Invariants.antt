use Rattle.std.proofs.Common.{◌≡◌, drop, map}
use Rattle.naga_json_write.specs.Encoding.{json_of}
use Rattle.naga_json_write.specs.Appends.{append_items}
use Rattle.naga_json.specs.Lists.{items_of}
use Rattle.naga_json_write.proofs.write.lists.write_items.Given as goal

abbrev pub invariant-loop-value : goal.invariant-loop-value
invariant-loop-value g l = record {
  before : l.out.before ≡ l.initial.out.before;
  tokens : append_items l.out.tokens (items_of (map (json_of g.T.ToJson.encoding) (drop l.value-index l.values)))
      ≡ append_items l.initial.out.tokens (items_of (map (json_of g.T.ToJson.encoding) l.values));
}
