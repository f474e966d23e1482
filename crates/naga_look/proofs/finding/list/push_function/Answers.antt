use Rattle.std.proofs.Common.{List, ℕ, Option, subst}
use Rattle.std.specs.Prelude.{OnOk}
use Rattle.naga_typing.specs.Joined.{Adds}
use Rattle.naga_look.specs.Findings.{AreFindingsInside, inside_function}
use Rattle.naga_look.proofs.finding.list.push_function.Goals as goal

pub returns : goal.returns
returns c =
    let inside = inside_function (c.args.handle, c.args.function.now) in
    subst (λ (name : Option (List ℕ)). OnOk c.push_body.result
    (Adds (AreFindingsInside c.args.module.now c.args.limit) (record inside { name = name }) c.args.found.now.items c.push_body.new.found.items))
    c.in_ok-name.ensures c.push_body.ensures
