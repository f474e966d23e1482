use Rattle.std.proofs.Common.{ap, ℕ, List, Result, Err}
use Rattle.naga_wgsl.specs.TypeTexts.{pointer_to, value_text}
use Rattle.naga_wgsl.specs.declared.write_error.Cause.{Cause}
use Rattle.naga_wgsl.proofs.AttemptsLemmas.{attempts-stopped, attempts_written}
use Rattle.naga_wgsl.proofs.type_texts.write_value_pointer.Goals as goal

pub returns : goal.returns
returns c =
    attempts-stopped (pointer_to (value_text c.args.size c.args.scalar) c.args.space) (value_text c.args.size c.args.scalar)
    c.args.text.now c.args.text.now c.fresh-base.result c.write_value.new.text c.in-Err.error
    (λ cause lacks. ap (λ (text : Result (List ℕ) Cause). pointer_to text c.args.space) lacks)
    (attempts_written (value_text c.args.size c.args.scalar) c.fresh-base.result c.write_value.new.text (Err c.in-Err.error) c.in-Err.ensures)
