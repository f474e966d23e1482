use Rattle.naga_compact.proofs.CollectLemmas.{AreVisited-fold}
use Rattle.naga_compact.proofs.collect.collect_references.Goals as goal

pub returns : goal.returns
returns g c =
    AreVisited-fold g.C.Visitor.visits g.C.Collect.collected g.met.C.Collect.never_stops c.args.collector.now (g.P.Refers.references c.args.part.now) c.visit_references.result c.visit_references.new.visitor c.visit_references.ensures.visited
