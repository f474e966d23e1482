use Rattle.std.proofs.Common.{◌∙◌, ◌++◌, ap, sym}
use Rattle.std.specs.Prelude.{codes}
use Rattle.naga_text.specs.Words.{number}
use Rattle.naga_typing.specs.Messages.{initialized_text}
use Rattle.naga_look.proofs.ReportLemmas.{OnOk-appended}
use Rattle.naga_look.proofs.faults.declarations.push_initialized.Goals as goal

pub returns-in-GlobalVariable : goal.returns-in-GlobalVariable
returns-in-GlobalVariable c =
    let same =
    ap (λ n. codes "global variable" ++ number n) c.index-in-GlobalVariable.ensures.value ∙ ap initialized_text (sym c.in-GlobalVariable.is)
    in
    OnOk-appended c.push_numbered-in-GlobalVariable.result c.args.text.now c.push_numbered-in-GlobalVariable.new.text
    (codes "global variable" ++ number c.index-in-GlobalVariable.result) (initialized_text c.args.declared) same c.push_numbered-in-GlobalVariable.ensures
