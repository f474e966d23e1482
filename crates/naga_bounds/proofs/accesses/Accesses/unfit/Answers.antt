use Rattle.std.proofs.Common.{◌≡◌, ◌∙◌, ◌++◌, ◌-◌, ap, length, sym, take}
use Rattle.std.proofs.Math.Seq.{take-nil}
use Rattle.naga_bounds.specs.Unfit.{unfit_at}
use Rattle.naga_bounds.proofs.UnfitLemmas.{unfit-next}
use Rattle.naga_bounds.proofs.accesses.Accesses.unfit.Goals as goal

pub expressions-init : goal.expressions-init
expressions-init c = c.new-found.ensures.items ∙ sym (take-nil c.args.limit)

pub expressions-preserved : goal.expressions-preserved
expressions-preserved c =
    let code = c.args.self.now in
    let before = c.expressions.found.items in
    let room = c.args.limit - length before in
    let here : c.push_unfit.new.found.items ≡ before ++ take room (unfit_at code c.expressions.index) =
    c.in_ok-push_unfit.ensures ∙ ap (λ handle. before ++ take room (unfit_at code handle)) c.at.ensures in
    unfit-next code c.args.limit c.expressions.index before c.push_unfit.new.found.items c.expressions.invariant here
