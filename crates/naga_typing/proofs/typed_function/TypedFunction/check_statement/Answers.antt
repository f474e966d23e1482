use Rattle.std.proofs.Common.{◌∙◌, ap, subst, sym}
use Rattle.naga_ir.proofs.NodeOfLemmas.{node_of-Switch}
use Rattle.naga_ir.specs.View.{cases_of, node_of}
use Rattle.naga_typing.specs.Checks.{Checks}
use Rattle.naga_typing.specs.Statements.{of_switch, required_by}
use Rattle.naga_typing.specs.TypedFunctions.{FitsIn}
use Rattle.naga_typing.proofs.typed_function.TypedFunction.check_statement.Goals as goal

pub returns-in-Switch : goal.returns-in-Switch
returns-in-Switch c =
    subst (λ node. Checks (FitsIn c.args.self.now) (required_by node) c.check_switch.result)
    (sym (ap node_of c.in-Switch.is ∙ node_of-Switch _ _))
    (subst (λ cases. Checks (FitsIn c.args.self.now) (of_switch c.in-Switch.selector (cases_of cases)) c.check_switch.result)
    c.as_slice.ensures.value c.check_switch.ensures)
