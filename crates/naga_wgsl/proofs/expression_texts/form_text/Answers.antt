use Rattle.std.proofs.Common.{◌∙◌, ap, Err}
use Rattle.naga_wgsl.proofs.AttemptsLemmas.{attempted-cause, attempted-text}
use Rattle.naga_wgsl.proofs.expression_texts.form_text.Goals as goal

pub returns-in-Ok : goal.returns-in-Ok
returns-in-Ok c = attempted-text _ _ _ _ c.new-text.ensures c.in-Ok.ensures

pub returns-in-Err-Inexpressible : goal.returns-in-Err-Inexpressible
returns-in-Err-Inexpressible c =
    ap Err c.in-Err-Inexpressible.cause-is
    ∙ attempted-cause _ _ _ c.in-Err-Inexpressible.field-0 c.in-Err-Inexpressible.cause c.in-Err-Inexpressible.field-0-is c.in-Err-Inexpressible.ensures
