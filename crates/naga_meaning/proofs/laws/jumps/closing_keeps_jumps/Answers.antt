use Rattle.std.proofs.Common.{refl}
use Rattle.naga_flow.specs.Structured.{of_function}
use Rattle.naga_meaning.proofs.Uses.StructuredLemmas.{closed-is_structured}
use Rattle.naga_meaning.proofs.laws.jumps.closing_keeps_jumps.Goals as goal

pub returns : goal.returns
returns call rule body = closed-is_structured rule of_function body refl
