use Rattle.std.specs.Prelude.{IfSome, string_bytes}
use Rattle.std.proofs.Common.{◌≡◌}
use Rattle.std.proofs.lemmas.Result.{IfOk-weaker}
use Rattle.naga_explain.specs.Messages.{IsMessage, explanation_text}
use Rattle.naga_explain.proofs.explanation.message_of.Goals as goal

pub returns : goal.returns
returns c =
    let here = c.in_ok-explanation in
    IfOk-weaker _ (λ message. IfSome (explanation_text here.explanation) (λ known. string_bytes message ≡ known))
    (λ message. IsMessage c.args.text.now c.args.skipped c.args.error (string_bytes message))
    (λ message shown. record { explanation = here.explanation; explains = here.ensures; shown = shown }) c.format.ensures.ok
