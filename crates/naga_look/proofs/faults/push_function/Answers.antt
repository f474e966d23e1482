use Rattle.std.proofs.Common.{List, ℕ, subst}
use Rattle.std.specs.Prelude.{OnOk}
use Rattle.naga_typing.specs.Joined.{Adds}
use Rattle.naga_look.specs.Report.{AreFunctionLines, headed_function, limit_of}
use Rattle.naga_look.proofs.faults.push_function.Goals as goal

pub returns : goal.returns
returns c =
    let headed = headed_function (c.args.index, c.args.function.now) in
    subst (λ (head : List ℕ). OnOk c.push_lines.result
    (Adds (AreFunctionLines c.args.module.now (limit_of c.args.extent)) (record { head = head; whole = headed.whole }) c.args.text.now c.push_lines.new.text))
    c.in_ok-head.ensures.head c.push_lines.ensures
