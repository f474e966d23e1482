use Rattle.std.proofs.Common.{◌≡◌, ◌∙◌, ap, sym, ℕ, List, Result, Ok}
use Rattle.naga_wgsl.specs.Forms.{cast_text, target_text}
use Rattle.naga_wgsl.specs.TypeTexts.{text_at}
use Rattle.naga_wgsl.specs.declared.write_error.Cause.{Cause}
use Rattle.naga_wgsl.proofs.AttemptsLemmas.{attempted-text, attempts-as, attempts_written}
use Rattle.naga_wgsl.proofs.form.write_cast.Goals as goal

pub returns-in-Ok : goal.returns-in-Ok
returns-in-Ok c =
    let target : Result (List ℕ) Cause = target_text c.args.shape c.args.kind c.args.convert in
    let found : target ≡ Ok c.as_str.result.now =
    sym (attempted-text target c.fresh-target.result c.write_target.new.text c.in-Ok.field-0 c.fresh-target.ensures
    (attempts_written target c.fresh-target.result c.write_target.new.text (Ok c.in-Ok.field-0) c.in-Ok.ensures))
    ∙ ap Ok (sym c.as_str.ensures) in
    attempts-as _ (cast_text (Ok c.as_str.result.now) (text_at c.args.known.now c.args.expr) c.args.convert) _ _ _
    (ap (λ (text : Result (List ℕ) Cause). cast_text text (text_at c.args.known.now c.args.expr) c.args.convert) found) c.write_cast_to.ensures
