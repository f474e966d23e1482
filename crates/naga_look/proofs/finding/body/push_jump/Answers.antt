use Rattle.std.proofs.Common.{◌≡◌, ◌∙◌, [], ◌∷◌, ◌++◌, subst}
use Rattle.std.specs.Prelude.{OnOk, None, Some}
use Rattle.naga_look.specs.Findings.{finding_in, inside_of, jump_fault}
use Rattle.naga_look.specs.declared.finding.FindingKind.TheVariants.{Fault}
use Rattle.naga_look.proofs.finding.body.push_jump.Goals as goal

pub returns : goal.returns
returns c =
    let inside = inside_of c.args.body.now in
    let same : finding_in Fault inside (Some c.in_ok-path.path) None c.as_str.result.now ≡ jump_fault inside c.args.misplaced.now =
    λ i. finding_in Fault inside (Some (c.in_ok-path.ensures i)) None ((c.as_str.ensures.value ∙ c.in_ok-message.ensures) i) in
    subst (λ one. OnOk c.push_finding.result (c.push_finding.new.found.items ≡ c.args.found.now.items ++ one ∷ [])) same c.push_finding.ensures
