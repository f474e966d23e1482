use Rattle.std.proofs.Common.{[]}
use Rattle.naga_meaning.proofs.Uses.EvaluatedOnceLemmas.{closed-once}
use Rattle.naga_meaning.proofs.Uses.UsesKnownLemmas.{closed-uses}
use Rattle.naga_meaning.proofs.laws.uses.closing_keeps_uses.Goals as goal

pub returns-clause-uses : goal.returns-clause-uses
returns-clause-uses c = λ rule expressions body. closed-uses expressions rule [] body

pub returns-clause-once : goal.returns-clause-once
returns-clause-once c = closed-once
