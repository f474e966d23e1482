use Rattle.std.proofs.Common.{◌≡◌, ◌∙◌, [], ◌∷◌, ◌++◌, subst, sym}
use Rattle.std.specs.Prelude.{None}
use Rattle.naga_typing.specs.Messages.{value_fault_text}
use Rattle.naga_look.specs.Findings.{Says, declaration_fault}
use Rattle.naga_look.specs.declared.finding.Finding.{Finding}
use Rattle.naga_look.specs.declared.finding.FindingKind.TheVariants.{Fault}
use Rattle.naga_look.proofs.FindingsLemmas.{AddsDeclarationFault-pushed}
use Rattle.naga_look.proofs.finding.declarations.push_fault.Goals as goal

pub returns : goal.returns
returns c =
    AddsDeclarationFault-pushed c.args.fault.now c.as_str.result.now c.in_ok-message-2.message c.owner_at_fault.result c.expression_at_fault.result
    c.args.found.now.items c.push.new.self.items
    (subst (Says (value_fault_text c.args.fault.now)) (sym c.as_str.ensures.value) c.in_ok-message.ensures)
    c.in_ok-message-2.ensures c.owner_at_fault.ensures c.expression_at_fault.ensures c.in_ok-push.ensures.items
