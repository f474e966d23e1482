use Rattle.std.proofs.Common.{◌≡◌, ◌≤◌, ◌∙◌, ap, arith, length, refl, rules, sym, false, None, Option, Some}
use Rattle.std.specs.Prelude.{is_some}
use Rattle.naga_bounds.specs.Fits.{misfit}
use Rattle.naga_bounds.specs.declared.cause.Cause.{Cause}
use Rattle.naga_bounds.proofs.MisfitsLemmas.{misfits-all, misfits-next}
use Rattle.naga_bounds.proofs.accesses.Accesses.all_fit.Goals as goal

none-found : (found : Option Cause) → is_some found ≡ false → found ≡ None
none-found None is = refl
none-found (Some cause) is = cc

pub expressions-preserved : goal.expressions-preserved
expressions-preserved c =
    let code = c.args.self.now in
    let here : misfit code c.expressions.index ≡ None =
    ap (misfit code) (sym c.at.ensures) ∙ sym c.misfit.ensures ∙ none-found c.misfit.result (sym c.is_some.ensures ∙ c.if-is_some.false) in
    misfits-next code c.expressions.index c.expressions.invariant here

pub returns : goal.returns
returns c =
    let code = c.args.self.now in
    let all : length code.arena ≤ c.expressions.index = omega (arith, c.len-index-end.ensures.value, c.expressions-test.false) in
    (λ yes. misfits-all code c.expressions.index all c.expressions.invariant, λ fit. search rules)
