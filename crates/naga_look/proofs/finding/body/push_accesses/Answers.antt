use Rattle.std.proofs.Common.{◌≡◌, ◌++◌, ◌∙◌, map, subst}
use Rattle.std.specs.Prelude.{OnOk}
use Rattle.naga_look.specs.Findings.{access_finding, inside_of}
use Rattle.naga_look.proofs.finding.body.push_accesses.Goals as goal

pub returns : goal.returns
returns c =
    subst (λ accesses. OnOk c.push_each_access.result (c.push_each_access.new.found.items ≡ c.args.found.now.items ++ map (access_finding (inside_of c.args.body.now)) accesses))
    (c.as_slice.ensures.value ∙ c.in_ok-accesses.ensures) c.push_each_access.ensures
