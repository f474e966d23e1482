use Rattle.std.proofs.Common.{◌≡◌, [], ◌∷◌, ◌++◌, subst, sym}
use Rattle.std.specs.Prelude.{OnOk, None, Some}
use Rattle.naga_typing.specs.Messages.{unmet_text}
use Rattle.naga_look.specs.Findings.{Says, finding_in, inside_of}
use Rattle.naga_look.specs.declared.finding.FindingKind.TheVariants.{Fault}
use Rattle.naga_look.proofs.FindingsLemmas.{AddsUnmet-said}
use Rattle.naga_look.proofs.finding.body.push_unmet.Goals as goal

pub returns : goal.returns
returns c =
    let inside = inside_of c.args.body.now in
    let said = c.as_str.result.now in
    AddsUnmet-said c.push_finding.result inside c.args.statement c.args.unmet.now said c.args.found.now.items c.push_finding.new.found.items
    (subst (Says (unmet_text c.args.unmet.now)) (sym c.as_str.ensures.value) c.in_ok-message.ensures)
    (subst (λ path. OnOk c.push_finding.result (c.push_finding.new.found.items ≡ c.args.found.now.items ++ finding_in Fault inside (Some path) None said ∷ []))
    c.in_ok-path.ensures c.push_finding.ensures)
