use Rattle.std.proofs.Common.{◌≡◌, [], drop, nat_eq}
use Rattle.json.specs.Value.{members_view}
use Rattle.naga_arena.specs.Limits.{max_len}
use Rattle.naga_json.specs.Maps.{entries_after, key_in, map_value}
use Rattle.naga_json_read.proofs.read.maps.read_members.Given as goal

-- the entries from the position on, after those before it, are all entries
abbrev pub invariant-members : goal.invariant-members
invariant-members g l =
    entries_after nat_eq (key_in max_len) g.V.FromJson.meaning (members_view (drop l.member-index l.members.items)) (map_value g.V.FromJson.value_of l.entries)
    ≡ entries_after nat_eq (key_in max_len) g.V.FromJson.meaning (members_view l.members.items) []
