-- Made by tests/derive from the declarations of naga_kinds and naga_ir.
use Rattle.std.proofs.Common.{drop, sym}
use Rattle.json.specs.Value.{value_view}
use Rattle.naga_json.proofs.NamesLemmas.{choose-misses}
use Rattle.naga_json.specs.derived.Literal.{literal_rows}
use Rattle.naga_json_values.proofs.derived.literal.read_held_literal_from_i64.Goals as goal

pub returns-in_default : goal.returns-in_default
returns-in_default c =
    let other = c.in_default in
    sym (choose-misses (drop 8 (literal_rows (value_view c.args.held.now))) c.args.name.now
    (other.not-I64, (other.not-Bool, (other.not-AbstractInt, (other.not-AbstractFloat, tt)))))
