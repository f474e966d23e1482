use Rattle.naga_text.proofs.PiecesLemmas.{OnOk-after}
use Rattle.naga_text.proofs.types.push_member.Goals as goal

pub returns : goal.returns
returns c =
    OnOk-after c.push_typed.result c.args.text.now c.push_declared.new.text c.push_typed.new.text _ _ c.in_ok-push_declared.ensures c.push_typed.ensures
