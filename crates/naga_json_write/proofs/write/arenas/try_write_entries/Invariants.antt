use Rattle.std.proofs.Common.{◌≡◌, List, map}
use Rattle.json.specs.Token.{Token}
use Rattle.naga_json_write.specs.Lists.{AppendsItems, HasNoItems}
use Rattle.naga_json_write.proofs.write.arenas.try_write_entries.Given as goal

-- the values that are left are still to be appended
abbrev pub invariant-loop-value : goal.invariant-loop-value
invariant-loop-value g l = record {
  before : l.out.before ≡ l.initial.out.before;
  written : (end : List Token) → AppendsItems g.T.TryToJson.writing.Writes (map g.T.TryToJson.writing.value_of (map (λ entry. entry.1) l.value-iterator)) l.out.tokens end → AppendsItems g.T.TryToJson.writing.Writes (map g.T.TryToJson.writing.value_of (map (λ entry. entry.1) l.fn.entries)) l.initial.out.tokens end;
  refused : HasNoItems g.T.TryToJson.writing.Writes (map g.T.TryToJson.writing.value_of (map (λ entry. entry.1) l.value-iterator)) → HasNoItems g.T.TryToJson.writing.Writes (map g.T.TryToJson.writing.value_of (map (λ entry. entry.1) l.fn.entries));
}
