use Rattle.naga_valid.specs.Operands.{expressions_of}
use Rattle.naga_flow.specs.Readings.{read_in}
use Rattle.naga_flow.specs.Results.{without}
use Rattle.naga_flow.specs.Tracking.{known_of}
use Rattle.naga_flow.proofs.OperandsLemmas.{AreVisited-breaks, AreVisited-continues, unread-judged}
use Rattle.naga_flow.proofs.operands.require_each.Goals as goal

pub returns-in-Continue : goal.returns-in-Continue
returns-in-Continue g c =
    AreVisited-continues _ (g.P.Refers.references c.args.part.now) c.visit_references.result c.visit_references.new.visitor c.in-Continue.field-0 c.in-Continue.is c.visit_references.ensures.visited

pub returns-in-Break : goal.returns-in-Break
returns-in-Break g c =
    unread-judged (read_in c.args.reading.now) (known_of c.args.known.now) (without c.args.outcome (expressions_of (g.P.Refers.references c.args.part.now))) c.in-Break.expression c.args.statement c.args.span
    (AreVisited-breaks _ (g.P.Refers.references c.args.part.now) c.visit_references.result c.visit_references.new.visitor c.in-Break.expression c.in-Break.is c.visit_references.ensures.visited)
    c.not_evaluated.result c.not_evaluated.ensures
