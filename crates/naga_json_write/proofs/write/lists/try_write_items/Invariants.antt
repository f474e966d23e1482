use Rattle.std.proofs.Common.{◌≡◌, List, drop, map}
use Rattle.json.specs.Token.{Token}
use Rattle.naga_json_write.specs.Lists.{AppendsItems, HasNoItems}
use Rattle.naga_json_write.proofs.write.lists.try_write_items.Given as goal

-- the values that are left are still to be appended
abbrev pub invariant-loop-value : goal.invariant-loop-value
invariant-loop-value g l = record {
  before : l.out.before ≡ l.initial.out.before;
  written : (end : List Token) → AppendsItems g.T.TryToJson.writing.Writes (map g.T.TryToJson.writing.value_of (drop l.value-index l.values)) l.out.tokens end → AppendsItems g.T.TryToJson.writing.Writes (map g.T.TryToJson.writing.value_of l.values) l.initial.out.tokens end;
  refused : HasNoItems g.T.TryToJson.writing.Writes (map g.T.TryToJson.writing.value_of (drop l.value-index l.values)) → HasNoItems g.T.TryToJson.writing.Writes (map g.T.TryToJson.writing.value_of l.values);
}
