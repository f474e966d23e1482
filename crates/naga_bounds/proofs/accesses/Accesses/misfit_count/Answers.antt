use Rattle.std.proofs.Common.{◌≡◌, ◌∙◌, true, false, ap, arith, sym}
use Rattle.std.specs.Prelude.{is_some}
use Rattle.naga_bounds.specs.Fits.{misfit}
use Rattle.naga_bounds.proofs.MisfitsLemmas.{count_by-next}
use Rattle.naga_bounds.proofs.accesses.Accesses.misfit_count.Goals.{then-is_some, else-is_some}
use Rattle.naga_bounds.proofs.accesses.Accesses.misfit_count.Goals as goal

pub expressions-preserved : goal.expressions-preserved
expressions-preserved c =
    let misfits = misfit c.args.self.now in
    let index = c.expressions.index in
    let here : is_some (misfits index) ≡ c.is_some.result =
    ap (λ handle. is_some (misfits handle)) (sym c.at.ensures) ∙ ap is_some (sym c.misfit.ensures) ∙ sym c.is_some.ensures in
    elim c.if-is_some.branch [
      | then-is_some w ↦
          let next = count_by-next misfits index true (here ∙ w.if-is_some.true) in record {
            counted = omega (arith, w.count-is, next, c.expressions.invariant.counted);
            fits = omega (arith, w.count-is, c.expressions.invariant.fits);
          }
      | else-is_some w ↦
          let next = count_by-next misfits index false (here ∙ w.if-is_some.false) in record {
            counted = omega (arith, w.count-is, next, c.expressions.invariant.counted);
            fits = omega (arith, w.count-is, c.expressions.invariant.fits);
          }
    ]
