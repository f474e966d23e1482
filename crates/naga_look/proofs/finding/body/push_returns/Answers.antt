use Rattle.std.proofs.Common.{◌≡◌, ◌++◌, ◌∙◌, map, subst}
use Rattle.std.specs.Prelude.{OnOk}
use Rattle.naga_look.specs.Findings.{inside_of, return_finding}
use Rattle.naga_look.proofs.finding.body.push_returns.Goals as goal

pub returns : goal.returns
returns c =
    subst (λ paths. OnOk c.push_each_return.result (c.push_each_return.new.found.items ≡ c.args.found.now.items ++ map (return_finding (inside_of c.args.body.now)) paths))
    (c.as_slice.ensures.value ∙ c.in_ok-paths.ensures) c.push_each_return.ensures
