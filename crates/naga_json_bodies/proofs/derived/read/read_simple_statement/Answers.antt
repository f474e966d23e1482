-- Made by tests/derive from the declarations of naga_kinds and naga_ir.
use Rattle.std.proofs.Common.{drop, take}
use Rattle.json.specs.Value.{value_view}
use Rattle.naga_json.proofs.NamesLemmas.{choose-append}
use Rattle.naga_json.specs.derived.Statement.{simple_statement_rows}
use Rattle.naga_json_bodies.proofs.derived.read.read_simple_statement.Goals as goal

pub returns-in_default : goal.returns-in_default
returns-in_default c =
    let other = c.in_default in
    let rows = simple_statement_rows (value_view c.args.held.now) in
    rw (choose-append (take 8 rows) (drop 8 rows) c.args.name.now
    (other.not-Emit, (other.not-Return, (other.not-ControlBarrier, (other.not-MemoryBarrier, (other.not-Store, (other.not-ImageStore, (other.not-Atomic, (other.not-ImageAtomic, tt))))))))) c.read_simple_statement_from_work_group_uniform_load.ensures
