use Rattle.std.proofs.Common.{◌≡◌, ◌∙◌, [], ◌∷◌, ◌++◌, subst}
use Rattle.std.specs.Prelude.{OnOk, None, Some}
use Rattle.naga_look.specs.Findings.{finding_in, inside_of}
use Rattle.naga_look.specs.declared.finding.FindingKind.TheVariants.{Access}
use Rattle.naga_look.proofs.finding.body.push_access.Goals as goal

pub returns : goal.returns
returns c =
    subst (λ message. OnOk c.push_finding.result (c.push_finding.new.found.items
    ≡ c.args.found.now.items ++ finding_in Access (inside_of c.args.body.now) None (Some c.args.access.now.expression) message ∷ []))
    (c.as_str.ensures.value ∙ c.in_ok-message.ensures) c.push_finding.ensures
