-- Made by tests/derive from the declarations of naga_kinds and naga_ir.
use Rattle.std.proofs.lemmas.List.Elements.{All-map}
use Rattle.naga_json_round_trip.proofs.derived.types.TypeInnerInRange.in_range.Goals as goal
use Rattle.naga_ir.specs.Types.{member_of}
use Rattle.naga_json.specs.derived.Types.{struct_member_codec}

pub returns-in-Struct : goal.returns-in-Struct
returns-in-Struct c = rw c.in-Struct.is (All-map struct_member_codec.Fits member_of c.in-Struct.members.items c.in_range-in-Struct.ensures, (c.in_range-in-Struct-2.ensures, tt))
