-- Made by tests/derive from the declarations of naga_kinds and naga_ir.
use Rattle.std.proofs.Common.{sym}
use Rattle.json.specs.Value.{value_view}
use Rattle.naga_json.proofs.NamesLemmas.{choose-misses}
use Rattle.naga_json.specs.derived.Statement.{ray_query_function_rows}
use Rattle.naga_json_values.proofs.derived.statement.read_held_ray_query_function.Goals as goal

pub returns-in_default : goal.returns-in_default
returns-in_default c =
    let other = c.in_default in
    sym (choose-misses (ray_query_function_rows (value_view c.args.held.now)) c.args.name.now
    (other.not-Initialize, (other.not-Proceed, (other.not-GenerateIntersection, tt))))
