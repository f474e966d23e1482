use Rattle.naga_opt.proofs.answer.answer.Goals as goal

pub returns-clause-answer : goal.returns-clause-answer
returns-clause-answer c = (c.in_ok-shown.field-0.shown, rw c.passes.ensures at c.in_ok-shown.ensures.shown, c.in_ok-whole.ensures)

pub returns-clause-said : goal.returns-clause-said
returns-clause-said c =
    (c.in_ok-shown.field-0.account, rw (c.passes.ensures, c.detail.ensures) at c.in_ok-shown.ensures.account, c.in_ok-said.ensures)
