use Rattle.std.proofs.Common.{◌≡◌, ◌∙◌, ◌++◌, ap, append_assoc}
use Rattle.std.specs.Prelude.{codes, string_bytes}
use Rattle.naga_text.proofs.PiecesLemmas.{OnOk-pieces}
use Rattle.naga_text.specs.Words.{number, quoted}
use Rattle.naga_look.proofs.emits.push_entry_point_line.Goals as goal

pub returns : goal.returns
returns c =
    let old = c.args.text.now in
    let first = codes "an access without its own Emit: " in
    let head = codes "entry point" ++ (number c.args.position ++ quoted (string_bytes c.args.name.now)) in
    let before : c.push_entry_point_name.new.text ≡ old ++ (first ++ head) =
    c.in_ok-push_entry_point_name.ensures ∙ ap (λ t. t ++ head) c.in_ok-push.ensures ∙ append_assoc old first head in
    OnOk-pieces c.push-2.result old c.push_entry_point_name.new.text c.push-2.new.self first head (codes "\n") before c.push-2.ensures
