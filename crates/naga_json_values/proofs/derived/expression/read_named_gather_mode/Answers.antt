-- Made by tests/derive from the declarations of naga_kinds and naga_ir.
use Rattle.std.proofs.Common.{sym}
use Rattle.naga_json.proofs.NamesLemmas.{find_row-misses}
use Rattle.naga_json.specs.derived.Expression.{gather_mode_names}
use Rattle.naga_json_values.proofs.derived.expression.read_named_gather_mode.Goals as goal

pub returns-in_default : goal.returns-in_default
returns-in_default c =
    let other = c.in_default in
    sym (find_row-misses gather_mode_names c.args.name.now (other.not-BroadcastFirst, tt))
