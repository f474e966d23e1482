use Rattle.std.proofs.Common.{◌≡◌, [], ◌∷◌, ◌++◌, subst}
use Rattle.std.specs.Prelude.{OnOk}
use Rattle.naga_look.specs.Findings.{inside_of, return_finding}
use Rattle.naga_look.proofs.finding.body.push_return.Goals as goal

pub returns : goal.returns
returns c =
    subst (λ path. OnOk c.push_finding.result (c.push_finding.new.found.items ≡ c.args.found.now.items ++ return_finding (inside_of c.args.body.now) path ∷ []))
    c.in_ok-path.ensures c.push_finding.ensures
