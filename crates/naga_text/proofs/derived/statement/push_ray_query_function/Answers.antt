-- Made by tests/derive from the declarations of naga_kinds and naga_ir.
use Rattle.naga_text.proofs.PiecesLemmas.{OnOk-variant}
use Rattle.naga_text.specs.derived.Statement.{ray_query_function_text}
use Rattle.naga_text.proofs.derived.statement.push_ray_query_function.Goals as goal

pub returns-in-Initialize : goal.returns-in-Initialize
returns-in-Initialize c = OnOk-variant ray_query_function_text c.push.result c.args.text.now c.push.new.self c.args.ray_query_function.now _ c.in-Initialize.is c.push.ensures

pub returns-in-Proceed : goal.returns-in-Proceed
returns-in-Proceed c = OnOk-variant ray_query_function_text c.push-in-Proceed.result c.args.text.now c.push-in-Proceed.new.self c.args.ray_query_function.now _ c.in-Proceed.is c.push-in-Proceed.ensures

pub returns-in-GenerateIntersection : goal.returns-in-GenerateIntersection
returns-in-GenerateIntersection c = OnOk-variant ray_query_function_text c.push-in-GenerateIntersection.result c.args.text.now c.push-in-GenerateIntersection.new.self c.args.ray_query_function.now _ c.in-GenerateIntersection.is c.push-in-GenerateIntersection.ensures

pub returns-in-ConfirmIntersection : goal.returns-in-ConfirmIntersection
returns-in-ConfirmIntersection c = OnOk-variant ray_query_function_text c.push-in-ConfirmIntersection.result c.args.text.now c.push-in-ConfirmIntersection.new.self c.args.ray_query_function.now _ c.in-ConfirmIntersection.is c.push-in-ConfirmIntersection.ensures

pub returns-in-Terminate : goal.returns-in-Terminate
returns-in-Terminate c = OnOk-variant ray_query_function_text c.push-in-Terminate.result c.args.text.now c.push-in-Terminate.new.self c.args.ray_query_function.now _ c.in-Terminate.is c.push-in-Terminate.ensures
