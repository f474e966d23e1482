use Rattle.std.proofs.Common.{Some, ap, ◌∙◌, sym}
use Rattle.naga_ir.specs.View.{cases_of, tree_of}
use Rattle.naga_notation.specs.Reading.State.{of_case}
use Rattle.naga_notation.specs.Reading.Reader.{place_of, grown}
use Rattle.naga_notation.proofs.ReachedOfLemmas.{cases_of-push}
use Rattle.naga_notation.proofs.reader.Place.push_case.Goals as goal

pub returns-in_ok-push-in-Case : goal.returns-in_ok-push-in-Case
returns-in_ok-push-in-Case c =
    ap (λ cases. Some (of_case (cases, c.in-Case.value))) (ap cases_of c.in_ok-push-in-Case.ensures.items ∙ cases_of-push c.in-Case.before.items _)
    ∙ ap (λ place. grown c.args.fall_through (tree_of c.args.body) (place_of place)) (sym c.in-Case.is)
