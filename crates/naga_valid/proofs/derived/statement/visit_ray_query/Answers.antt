-- Made by tests/derive from the declarations of naga_kinds and naga_ir.
use Rattle.std.proofs.Common.{subst, sym}
use Rattle.std.specs.Prelude.{◌∷◌}
use Rattle.naga_valid.specs.Reference.{operands}
use Rattle.naga_valid.specs.Statements.{operands_of_ray_query_function}
use Rattle.naga_valid.specs.Visits.{IsWalk}
use Rattle.naga_valid.proofs.derived.statement.visit_ray_query.Goals as goal

pub returns-in-Initialize : goal.returns-in-Initialize
returns-in-Initialize g c =
    subst (λ value. IsWalk g.V.Visitor.visits c.args.visitor.now (operands (c.args.query ∷ operands_of_ray_query_function value)) c.three.result c.three.new.visitor) (sym c.in-Initialize.is) c.three.ensures
