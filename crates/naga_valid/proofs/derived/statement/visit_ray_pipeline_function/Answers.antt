-- Made by tests/derive from the declarations of naga_kinds and naga_ir.
use Rattle.std.proofs.Common.{subst, sym}
use Rattle.naga_valid.specs.Reference.{operands}
use Rattle.naga_valid.specs.Visits.{IsWalk}
use Rattle.naga_valid.proofs.derived.statement.visit_ray_pipeline_function.Goals as goal

pub returns : goal.returns
returns g c =
    subst (λ list. IsWalk g.V.Visitor.visits c.args.visitor.now (operands list) c.three.result c.three.new.visitor) (sym c.operands_of_ray_pipeline_function-first.ensures) c.three.ensures
