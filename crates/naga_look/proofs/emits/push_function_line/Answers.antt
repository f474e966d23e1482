use Rattle.std.proofs.Common.{◌≡◌, ◌∙◌, ◌++◌, ap, append_assoc}
use Rattle.std.specs.Prelude.{codes}
use Rattle.naga_text.proofs.PiecesLemmas.{OnOk-pieces}
use Rattle.naga_look.specs.Report.{headed_function}
use Rattle.naga_look.proofs.emits.push_function_line.Goals as goal

pub returns : goal.returns
returns c =
    let old = c.args.text.now in
    let first = codes "an access without its own Emit: " in
    let head = (headed_function (c.args.index, c.args.function.now)).head in
    let before : c.push_declared.new.text ≡ old ++ (first ++ head) =
    c.in_ok-push_declared.ensures ∙ ap (λ t. t ++ head) c.in_ok-push.ensures ∙ append_assoc old first head in
    OnOk-pieces c.push-2.result old c.push_declared.new.text c.push-2.new.self first head (codes "\n") before c.push-2.ensures
