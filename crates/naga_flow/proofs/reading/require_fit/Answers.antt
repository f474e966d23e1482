use Rattle.std.proofs.Common.{◌≡◌, ℕ, [], Some, option_to_list, refl, subst, sym}
use Rattle.naga_flow.specs.Tracking.{IsFirstNot}
use Rattle.naga_flow.specs.Uses.{expressions_in}
use Rattle.naga_flow.proofs.IsFirstNotLemmas.{IsFirstNot-here}
use Rattle.naga_flow.proofs.IsTrueLemmas.{IsTrue-not}
use Rattle.naga_flow.proofs.reading.require_fit.Goals as goal

pub returns : goal.returns
returns c =
    let P : ℕ → Type 0 = λ handle. (expressions_in c.args.expressions.now).evaluation handle ≡ Some c.args.way.now in (
      record { number_is = refl; span_is = refl },
      record {
        first = subst (λ handle. IsFirstNot P (option_to_list handle) c.in-Some.expression) (sym c.in-Some.is)
            (IsFirstNot-here P c.in-Some.expression [] (IsTrue-not c.is_evaluated.result (P c.in-Some.expression) c.is_evaluated.ensures c.if-is_evaluated.false));
        cause = refl;
      },
    )
