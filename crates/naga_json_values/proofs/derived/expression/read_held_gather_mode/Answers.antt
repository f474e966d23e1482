-- Made by tests/derive from the declarations of naga_kinds and naga_ir.
use Rattle.std.proofs.Common.{sym}
use Rattle.json.specs.Value.{value_view}
use Rattle.naga_json.proofs.NamesLemmas.{choose-misses}
use Rattle.naga_json.specs.derived.Expression.{gather_mode_rows}
use Rattle.naga_json_values.proofs.derived.expression.read_held_gather_mode.Goals as goal

pub returns-in_default : goal.returns-in_default
returns-in_default c =
    let other = c.in_default in
    sym (choose-misses (gather_mode_rows (value_view c.args.held.now)) c.args.name.now
    (other.not-Broadcast, (other.not-Shuffle, (other.not-ShuffleDown, (other.not-ShuffleUp, (other.not-ShuffleXor, (other.not-QuadBroadcast, (other.not-QuadSwap, tt))))))))
