-- Made by tests/derive from the declarations of naga_kinds and naga_ir.
use Rattle.std.proofs.Common.{drop, sym}
use Rattle.json.specs.Value.{value_view}
use Rattle.naga_json.proofs.NamesLemmas.{choose-misses}
use Rattle.naga_json.specs.derived.Types.{type_inner_rows}
use Rattle.naga_json_types.proofs.derived.types.read_held_type_inner_from_struct.Goals as goal

pub returns-in_default : goal.returns-in_default
returns-in_default c =
    let other = c.in_default in
    λ _. sym (choose-misses (drop 8 (type_inner_rows (value_view c.args.held.now))) c.args.name.now
    (other.not-Struct, (other.not-Image, (other.not-Sampler, (other.not-AccelerationStructure, (other.not-RayQuery, (other.not-BindingArray, tt)))))))
