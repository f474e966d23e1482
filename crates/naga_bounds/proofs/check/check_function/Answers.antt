use Rattle.std.proofs.Common.{◌≡◌, ◌≤◌, ◌∙◌, None, arith, length, sym}
use Rattle.naga_bounds.specs.Fits.{misfit}
use Rattle.naga_bounds.specs.Modules.{typed_in}
use Rattle.naga_bounds.proofs.MisfitsLemmas.{misfits-all, misfits-next}
use Rattle.naga_bounds.proofs.check.check_function.Goals as goal

pub expressions-preserved : goal.expressions-preserved
expressions-preserved c =
    let code = typed_in c.args.«module».now c.args.function.now in
    let here : misfit code c.expressions.index ≡ None =
    (λ i. misfit (sym c.in-Some.ensures i) (sym c.at-expression.ensures i)) ∙ sym c.misfit.ensures ∙ c.in-None.is in
    misfits-next code c.expressions.index c.expressions.invariant here

pub returns : goal.returns
returns c =
    let code = typed_in c.args.«module».now c.args.function.now in
    let all : length code.arena ≤ c.expressions.index = omega (arith, c.len-index-end.ensures.value, c.expressions-test.false) in
    misfits-all code c.expressions.index all c.expressions.invariant
