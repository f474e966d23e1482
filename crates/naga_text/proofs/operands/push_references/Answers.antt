use Rattle.naga_text.proofs.AppendsLemmas.{references_text-visited}
use Rattle.naga_text.proofs.operands.push_references.Goals as goal

pub returns-in-Continue : goal.returns-in-Continue
returns-in-Continue g c =
    references_text-visited _ c.args.text.now (g.P.Refers.references c.args.part.now) c.visit_references.result c.visit_references.new.visitor c.in-Continue.is c.visit_references.ensures.visited
