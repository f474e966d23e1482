use Rattle.naga_text.proofs.PiecesLemmas.{OnOk-after}
use Rattle.naga_text.proofs.function.FunctionArgumentElement.push.Goals as goal

pub returns : goal.returns
returns c =
    OnOk-after c.push.result c.args.text.now c.push_declared.new.text c.push.new.self _ _ c.in_ok-push_declared.ensures
    (OnOk-after c.push.result c.push_declared.new.text c.push_typed.new.text c.push.new.self _ _ c.in_ok-push_typed.ensures c.push.ensures)
