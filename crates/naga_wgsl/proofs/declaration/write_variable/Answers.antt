use Rattle.naga_wgsl.proofs.AttemptsLemmas.{attempts-followed, attempts-front}
use Rattle.naga_wgsl.proofs.declaration.write_variable.Goals as goal

pub returns-in-Ok : goal.returns-in-Ok
returns-in-Ok c = attempts-followed _ _ _ _ _ c.in-Ok.field-0 _ c.in-Ok.ensures c.write_initialized.ensures

pub returns-in-Err : goal.returns-in-Err
returns-in-Err c = attempts-front _ _ _ _ _ c.in-Err.error c.in-Err.ensures
