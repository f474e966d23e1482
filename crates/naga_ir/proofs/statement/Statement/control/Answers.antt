use Rattle.std.proofs.Common.{◌∙◌, sym, ap}
use Rattle.naga_ir.specs.Tree.{switch}
use Rattle.naga_ir.specs.View.{cases_of, node_of}
use Rattle.naga_ir.proofs.NodeOfLemmas.{node_of-Block, node_of-If, node_of-Loop, node_of-Switch}
use Rattle.naga_ir.proofs.statement.Statement.control.Goals as goal

pub returns-in-Block-clause-node : goal.returns-in-Block-clause-node
returns-in-Block-clause-node c = ap node_of c.in-Block.is ∙ node_of-Block _

pub returns-in-If-clause-node : goal.returns-in-If-clause-node
returns-in-If-clause-node c = ap node_of c.in-If.is ∙ node_of-If _ _ _

pub returns-in-Switch-clause-node : goal.returns-in-Switch-clause-node
returns-in-Switch-clause-node c =
    ap node_of c.in-Switch.is ∙ node_of-Switch _ _ ∙ sym (ap (λ cases. switch c.in-Switch.selector (cases_of cases)) c.deref.ensures.value)

pub returns-in-Loop-clause-node : goal.returns-in-Loop-clause-node
returns-in-Loop-clause-node c = ap node_of c.in-Loop.is ∙ node_of-Loop _ _ _
