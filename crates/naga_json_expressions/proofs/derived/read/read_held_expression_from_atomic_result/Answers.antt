-- Made by tests/derive from the declarations of naga_kinds and naga_ir.
use Rattle.std.proofs.Common.{drop, sym}
use Rattle.json.specs.Value.{value_view}
use Rattle.naga_json.proofs.NamesLemmas.{choose-misses}
use Rattle.naga_json.specs.derived.Expression.{expression_rows}
use Rattle.naga_json_expressions.proofs.derived.read.read_held_expression_from_atomic_result.Goals as goal

pub returns-in_default : goal.returns-in_default
returns-in_default c =
    let other = c.in_default in
    sym (choose-misses (drop 24 (expression_rows (value_view c.args.held.now))) c.args.name.now
    (other.not-AtomicResult, (other.not-WorkGroupUniformLoadResult, (other.not-ArrayLength, (other.not-RayQueryVertexPositions, (other.not-RayQueryGetIntersection, (other.not-SubgroupOperationResult, (other.not-CooperativeLoad, (other.not-CooperativeMultiplyAdd, tt)))))))))
