-- Made by tests/derive from the declarations of naga_kinds and naga_ir.
use Rattle.naga_text.proofs.PiecesLemmas.{OnOk-variant}
use Rattle.naga_text.specs.derived.Expression.{atomic_function_text}
use Rattle.naga_text.proofs.derived.expression.push_atomic_function.Goals as goal

pub returns-in-Add : goal.returns-in-Add
returns-in-Add c = OnOk-variant atomic_function_text c.push.result c.args.text.now c.push.new.self c.args.atomic_function.now _ c.in-Add.is c.push.ensures

pub returns-in-Subtract : goal.returns-in-Subtract
returns-in-Subtract c = OnOk-variant atomic_function_text c.push-in-Subtract.result c.args.text.now c.push-in-Subtract.new.self c.args.atomic_function.now _ c.in-Subtract.is c.push-in-Subtract.ensures

pub returns-in-And : goal.returns-in-And
returns-in-And c = OnOk-variant atomic_function_text c.push-in-And.result c.args.text.now c.push-in-And.new.self c.args.atomic_function.now _ c.in-And.is c.push-in-And.ensures

pub returns-in-ExclusiveOr : goal.returns-in-ExclusiveOr
returns-in-ExclusiveOr c = OnOk-variant atomic_function_text c.push-in-ExclusiveOr.result c.args.text.now c.push-in-ExclusiveOr.new.self c.args.atomic_function.now _ c.in-ExclusiveOr.is c.push-in-ExclusiveOr.ensures

pub returns-in-InclusiveOr : goal.returns-in-InclusiveOr
returns-in-InclusiveOr c = OnOk-variant atomic_function_text c.push-in-InclusiveOr.result c.args.text.now c.push-in-InclusiveOr.new.self c.args.atomic_function.now _ c.in-InclusiveOr.is c.push-in-InclusiveOr.ensures

pub returns-in-Min : goal.returns-in-Min
returns-in-Min c = OnOk-variant atomic_function_text c.push-in-Min.result c.args.text.now c.push-in-Min.new.self c.args.atomic_function.now _ c.in-Min.is c.push-in-Min.ensures

pub returns-in-Max : goal.returns-in-Max
returns-in-Max c = OnOk-variant atomic_function_text c.push-in-Max.result c.args.text.now c.push-in-Max.new.self c.args.atomic_function.now _ c.in-Max.is c.push-in-Max.ensures

pub returns-in-Exchange : goal.returns-in-Exchange
returns-in-Exchange c = OnOk-variant atomic_function_text c.push-in-Exchange.result c.args.text.now c.push-in-Exchange.new.self c.args.atomic_function.now _ c.in-Exchange.is c.push-in-Exchange.ensures
