use Rattle.std.proofs.Common.{[]}
use Rattle.naga_meaning.proofs.Uses.EvaluatedOnceLemmas.{culled-once}
use Rattle.naga_meaning.proofs.Uses.UsesKnownLemmas.{culled-uses}
use Rattle.naga_meaning.proofs.laws.uses.culling_keeps_uses.Goals as goal

pub returns-clause-uses : goal.returns-clause-uses
returns-clause-uses c = λ expressions body. culled-uses expressions [] body

pub returns-clause-once : goal.returns-clause-once
returns-clause-once c = culled-once
