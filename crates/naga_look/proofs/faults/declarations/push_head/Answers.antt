use Rattle.std.proofs.Common.{◌∙◌, ◌++◌, ap, sym}
use Rattle.std.specs.Prelude.{codes}
use Rattle.naga_look.specs.DeclarationLines.{expression_text, fault_head}
use Rattle.naga_look.proofs.ReportLemmas.{OnOk-appended, OnOk-appended_after}
use Rattle.naga_look.proofs.faults.declarations.push_head.Goals as goal

pub returns-in_ok-push_numbered-in-NoType : goal.returns-in_ok-push_numbered-in-NoType
returns-in_ok-push_numbered-in-NoType c =
    let same =
    ap (λ n. expression_text n ++ codes " has no type") c.index.ensures.value ∙ ap fault_head (sym c.in-NoType.is)
    in
    OnOk-appended_after c.push.result c.args.text.now c.push_numbered.new.text c.push.new.self (expression_text c.index.result) (codes " has no type")
    (fault_head c.args.fault.now) c.in_ok-push_numbered-in-NoType.ensures same c.push.ensures

pub returns-in-Operand : goal.returns-in-Operand
returns-in-Operand c =
    OnOk-appended c.push_numbered-in-Operand.result c.args.text.now c.push_numbered-in-Operand.new.text
    (expression_text c.index-in-Operand.result) (fault_head c.args.fault.now)
    (ap expression_text c.index-in-Operand.ensures.value ∙ ap fault_head (sym c.in-Operand.is)) c.push_numbered-in-Operand.ensures
