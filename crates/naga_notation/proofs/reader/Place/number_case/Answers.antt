use Rattle.std.proofs.Common.{Some, ◌≡◌, length, ap, ◌∙◌, sym, arith}
use Rattle.naga_ir.specs.View.{cases_of}
use Rattle.naga_notation.specs.Reading.State.{of_case}
use Rattle.naga_notation.specs.Reading.Reader.{place_of, numbered}
use Rattle.naga_notation.proofs.ReachedOfLemmas.{case_count-cases_of, cases_at-few}
use Rattle.naga_notation.proofs.reader.Place.number_case.Goals as goal

pub value_after-requires : goal.value_after-requires
value_after-requires c =
    let few = cases_at-few c.args.self.now c.in-Case.before c.in-Case.value c.in-Case.is c.requires in
    omega (arith, few)

pub returns-in-Case : goal.returns-in-Case
returns-in-Case c =
    let before = c.in-Case.before.items in
    let counted : length before ≡ c.len.result = omega arith in
    ap (λ value. Some (of_case (cases_of before, value))) (c.value_after.ensures (cases_of before) (case_count-cases_of before ∙ counted))
    ∙ ap (λ place. numbered c.args.is_default (place_of place)) (sym c.in-Case.is)
