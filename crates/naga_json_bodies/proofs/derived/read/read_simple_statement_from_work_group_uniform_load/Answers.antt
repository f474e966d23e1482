-- Made by tests/derive from the declarations of naga_kinds and naga_ir.
use Rattle.std.proofs.Common.{drop, sym}
use Rattle.json.specs.Value.{value_view}
use Rattle.naga_json.proofs.NamesLemmas.{choose-misses}
use Rattle.naga_json.specs.derived.Statement.{simple_statement_rows}
use Rattle.naga_json_bodies.proofs.derived.read.read_simple_statement_from_work_group_uniform_load.Goals as goal

pub returns-in_default : goal.returns-in_default
returns-in_default c =
    let other = c.in_default in
    λ _. sym (choose-misses (drop 8 (simple_statement_rows (value_view c.args.held.now))) c.args.name.now
    (other.not-WorkGroupUniformLoad, (other.not-Call, (other.not-RayQuery, (other.not-RayPipelineFunction, (other.not-SubgroupBallot, (other.not-SubgroupGather, (other.not-SubgroupCollectiveOperation, (other.not-CooperativeStore, tt)))))))))
