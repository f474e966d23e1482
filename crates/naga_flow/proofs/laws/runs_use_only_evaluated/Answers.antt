use Rattle.std.proofs.Common.{[]}
use Rattle.naga_flow.specs.Events.{events}
use Rattle.naga_flow.proofs.UsesOnlyEvaluatedLemmas.{BlockRuns-uses}
use Rattle.naga_flow.proofs.EventsLemmas.{EventsUseKnown-each}
use Rattle.naga_flow.proofs.IncludesLemmas.{Includes-itself}
use Rattle.naga_flow.proofs.laws.runs_use_only_evaluated.Goals as goal

pub returns : goal.returns
returns c expressions body turns answers run h d = EventsUseKnown-each expressions (events d) (BlockRuns-uses expressions [] [] d Includes-itself h)
