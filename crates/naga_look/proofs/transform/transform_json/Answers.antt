use Rattle.naga_passes.proofs.TextLemmas.{IsText-read}
use Rattle.naga_look.proofs.TransformLemmas.{IsAnswerAfter-answer, MayFailAfter-answer, MayFailAfter-converted, MayFailAfter-stopped}
use Rattle.naga_look.proofs.transform.transform_json.Goals as goal

pub returns-in_err-module-clause-fault : goal.returns-in_err-module-clause-fault
returns-in_err-module-clause-fault c =
    MayFailAfter-converted c.args.passes.now c.args.view c.args.text.now c.from_residual.result c.in_err-module.field-0.0 c.from_residual.ensures.1 c.in_err-module.ensures.meaning

pub returns-in_err-shown-in-Ok-clause-fault : goal.returns-in_err-shown-in-Ok-clause-fault
returns-in_err-shown-in-Ok-clause-fault c =
    MayFailAfter-answer c.args.passes.now c.args.view c.args.text.now c.in_ok-module.module c.run_counted.new.module
    c.from_residual-in_err-shown-in-Ok.result c.in_err-shown-in-Ok.field-0.0 c.from_residual-in_err-shown-in-Ok.ensures.1
    (IsText-read c.in_ok-module.module c.args.text.now c.in_ok-module.ensures.meaning c.in_ok-module.ensures.handles)
    c.in-Ok.ensures.ran c.in_err-shown-in-Ok.ensures.fault

pub returns-in-Ok-clause-shown : goal.returns-in-Ok-clause-shown
returns-in-Ok-clause-shown c =
    IsAnswerAfter-answer c.args.passes.now c.args.view c.args.text.now c.in_ok-module.module c.run_counted.new.module c.in_ok-shown-in-Ok.shown
    (IsText-read c.in_ok-module.module c.args.text.now c.in_ok-module.ensures.meaning c.in_ok-module.ensures.handles)
    c.in-Ok.ensures.ran c.in_ok-shown-in-Ok.ensures.answers

pub returns-clause-fault : goal.returns-clause-fault
returns-clause-fault c =
    MayFailAfter-stopped c.args.passes.now c.args.view c.args.text.now c.in_ok-module.module c.run_counted.new.module
    c.in-Err.error.position c.in-Err.error.fault c.error_of_pass.result c.error_of_pass.ensures
    (IsText-read c.in_ok-module.module c.args.text.now c.in_ok-module.ensures.meaning c.in_ok-module.ensures.handles) c.in-Err.ensures.stopped
