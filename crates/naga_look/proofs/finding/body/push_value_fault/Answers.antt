use Rattle.std.proofs.Common.{◌≡◌, [], ◌∷◌, ◌++◌, subst, sym}
use Rattle.std.specs.Prelude.{OnOk, None}
use Rattle.naga_typing.specs.Messages.{value_fault_text}
use Rattle.naga_look.specs.Findings.{Says, finding_in, inside_of}
use Rattle.naga_look.specs.declared.finding.FindingKind.TheVariants.{Fault}
use Rattle.naga_look.proofs.FindingsLemmas.{AddsValueFault-said}
use Rattle.naga_look.proofs.finding.body.push_value_fault.Goals as goal

pub returns : goal.returns
returns c =
    let inside = inside_of c.args.body.now in
    let said = c.as_str.result.now in
    AddsValueFault-said c.push_finding.result inside c.args.fault.now said c.args.found.now.items c.push_finding.new.found.items
    (subst (Says (value_fault_text c.args.fault.now)) (sym c.as_str.ensures.value) c.in_ok-message.ensures)
    (subst (λ expression. OnOk c.push_finding.result (c.push_finding.new.found.items ≡ c.args.found.now.items ++ finding_in Fault inside None expression said ∷ []))
    c.expression_at_fault.ensures c.push_finding.ensures)
