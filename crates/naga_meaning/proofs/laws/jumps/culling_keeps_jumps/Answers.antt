use Rattle.naga_flow.specs.Structured.{of_function}
use Rattle.naga_meaning.proofs.Uses.StructuredLemmas.{culled-is_structured}
use Rattle.naga_meaning.proofs.laws.jumps.culling_keeps_jumps.Goals as goal

pub returns : goal.returns
returns call = culled-is_structured of_function
