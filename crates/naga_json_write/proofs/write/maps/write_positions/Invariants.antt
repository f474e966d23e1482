use Rattle.std.proofs.Common.{◌≡◌}
use Rattle.naga_json_write.specs.Encoding.{json_of}
use Rattle.naga_json_write.specs.Appends.{append_members}
use Rattle.naga_json.specs.Maps.{entry_fields}
use Rattle.naga_json.specs.Objects.{members_of}
use Rattle.naga_json_write.proofs.write.maps.write_positions.Given as goal

-- the entries that are left are still to be appended
abbrev pub invariant-entries : goal.invariant-entries
invariant-entries g l = record {
  before : l.out.before ≡ l.initial.out.before;
  tokens : append_members l.out.tokens (members_of (entry_fields (json_of g.V.ToJson.encoding) l.position-iterator))
      ≡ append_members l.initial.out.tokens (members_of (entry_fields (json_of g.V.ToJson.encoding) l.entries.entries));
}
