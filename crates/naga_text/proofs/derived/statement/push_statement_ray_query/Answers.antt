-- Made by tests/derive from the declarations of naga_kinds and naga_ir.
use Rattle.std.specs.Prelude.{codes}
use Rattle.naga_text.proofs.PiecesLemmas.{OnOk-after}
use Rattle.naga_text.proofs.derived.statement.push_statement_ray_query.Goals as goal

pub returns : goal.returns
returns c =
    OnOk-after c.push_ray_query_function.result c.args.text.now c.push.new.self c.push_ray_query_function.new.text (codes "ray_query") _ c.in_ok-push.ensures
    c.push_ray_query_function.ensures
