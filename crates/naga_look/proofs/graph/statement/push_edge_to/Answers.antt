use Rattle.naga_look.proofs.FlowLemmas.{edge_to-first}
use Rattle.naga_look.proofs.graph.statement.push_edge_to.Goals as goal

pub returns-then-position-eq0 : goal.returns-then-position-eq0
returns-then-position-eq0 c = edge_to-first c.args.block.now c.args.text.now c.args.position c.if-position-eq0.true
