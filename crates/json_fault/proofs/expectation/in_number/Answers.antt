use Rattle.std.proofs.Common.{◌∙◌, sym}
use Rattle.json_fault.proofs.AwaitsLemmas
use Rattle.json_fault.proofs.expectation.in_number.Goals as goal

pub returns-then-ends_number : goal.returns-then-ends_number
returns-then-ends_number c = AwaitsLemmas.number_awaits _ c.args.part _ c.requires (sym c.ends_number.ensures ∙ c.if-ends_number.true) c.after_value.ensures

pub returns : goal.returns
returns c = AwaitsLemmas.digit_expected c.args.part _ c.requires (sym c.ends_number.ensures ∙ c.if-ends_number.false)
