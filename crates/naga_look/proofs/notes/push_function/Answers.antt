use Rattle.std.proofs.Common.{◌≡◌, ◌++◌, List, ℕ, subst}
use Rattle.std.specs.Prelude.{OnOk}
use Rattle.naga_look.specs.Notes.{notes_in}
use Rattle.naga_look.specs.Report.{headed_function}
use Rattle.naga_look.proofs.notes.push_function.Goals as goal

pub returns : goal.returns
returns c =
    let headed = headed_function (c.args.index, c.args.function.now) in
    subst (λ (head : List ℕ). OnOk c.push_both.result
    (c.push_both.new.text ≡ c.args.text.now ++ notes_in c.args.module.now c.args.limit head headed.whole))
    c.in_ok-head.ensures.head c.push_both.ensures
