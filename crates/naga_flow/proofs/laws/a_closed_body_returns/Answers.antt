use Rattle.naga_flow.specs.Structured.{of_function}
use Rattle.naga_flow.proofs.StructuredLemmas.{BlockRuns-may_end, may_end-function}
use Rattle.naga_flow.proofs.laws.a_closed_body_returns.Goals as goal

pub returns : goal.returns
returns c body turns answers run h never d = may_end-function run.ending (BlockRuns-may_end of_function d h) (never turns answers run d)
