use Rattle.std.proofs.Common.{◌∙◌, sym, ap, arith}
use Rattle.naga_ir.specs.View.{cases_of}
use Rattle.naga_runs.specs.Runs.{from}
use Rattle.naga_runs.proofs.EnteredLemmas.{entered-named, entered-default}
use Rattle.naga_runs.proofs.FromLemmas.{cases_of-slice}
use Rattle.naga_runs.proofs.walk.entered_cases.Goals as goal

pub returns-then-named-cases : goal.returns-then-named-cases
returns-then-named-cases c =
    cases_of-slice c.args.cases.now c.args.answer c.args.answer (omega arith) ∙ ap (λ position. from position (cases_of c.args.cases.now)) (sym (entered-named c.args.cases.now c.args.answer (omega arith)))

pub returns : goal.returns
returns c =
    cases_of-slice c.args.cases.now c.default_position.result c.default_position.result (omega (arith, c.default_position.ensures.within))
    ∙ ap (λ position. from position (cases_of c.args.cases.now)) (c.default_position.ensures.position ∙ sym (entered-default c.args.cases.now c.args.answer (omega arith)))
