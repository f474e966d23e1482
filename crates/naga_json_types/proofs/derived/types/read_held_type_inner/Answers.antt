-- Made by tests/derive from the declarations of naga_kinds and naga_ir.
use Rattle.std.proofs.Common.{drop, take}
use Rattle.json.specs.Value.{value_view}
use Rattle.naga_json.proofs.NamesLemmas.{choose-append}
use Rattle.naga_json.specs.derived.Types.{type_inner_rows}
use Rattle.naga_json_types.proofs.derived.types.read_held_type_inner.Goals as goal

pub returns-in_default : goal.returns-in_default
returns-in_default c =
    let other = c.in_default in
    let rows = type_inner_rows (value_view c.args.held.now) in
    rw (choose-append (take 8 rows) (drop 8 rows) c.args.name.now
    (other.not-Scalar, (other.not-Vector, (other.not-Matrix, (other.not-CooperativeMatrix, (other.not-Atomic, (other.not-Pointer, (other.not-ValuePointer, (other.not-Array, tt))))))))) c.read_held_type_inner_from_struct.ensures
