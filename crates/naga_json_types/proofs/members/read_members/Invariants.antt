use Rattle.std.proofs.Common.{◌≡◌, ◌++◌, drop, map, Some}
use Rattle.json.specs.Value.{items_view}
use Rattle.naga_ir.specs.Types.{member_of}
use Rattle.naga_json.specs.Numbers.{◌>>=◌}
use Rattle.naga_json.specs.Lists.{each_of}
use Rattle.naga_json.specs.derived.Types.{struct_member_codec}
use Rattle.naga_json_types.proofs.members.read_members.Given as goal

abbrev pub invariant-loop-item : goal.invariant-loop-item
invariant-loop-item l = each_of struct_member_codec.decode (items_view l.items.items) ≡ (each_of struct_member_codec.decode (items_view (drop l.item-index l.items.items)) >>= λ rest. Some (map member_of l.members.items ++ rest))
