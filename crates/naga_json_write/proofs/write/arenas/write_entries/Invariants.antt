use Rattle.std.proofs.Common.{◌≡◌, map}
use Rattle.naga_json_write.specs.Encoding.{json_of}
use Rattle.naga_json_write.specs.Appends.{append_items}
use Rattle.naga_json.specs.Lists.{items_of}
use Rattle.naga_json_write.proofs.write.arenas.write_entries.Given as goal

-- the entries that are left are still to be appended
abbrev pub invariant-loop-value : goal.invariant-loop-value
invariant-loop-value g l = record {
  before : l.out.before ≡ l.initial.out.before;
  tokens : append_items l.out.tokens (items_of (map (json_of g.T.ToJson.encoding) (map (λ entry. entry.1) l.value-iterator)))
      ≡ append_items l.initial.out.tokens (items_of (map (json_of g.T.ToJson.encoding) (map (λ entry. entry.1) l.fn.entries)));
}
