use Rattle.naga_bounds.proofs.ModuleBoundsLemmas.{entries-in-bounds, functions-in-bounds}
use Rattle.naga_bounds.proofs.ModuleOutcomesLemmas.{entries-compute, functions-compute}
use Rattle.naga_bounds.proofs.laws.calls.restricted_modules.Goals as goal

pub returns-clause-same : goal.returns-clause-same
returns-clause-same g c old new valid restricts initial look by number unsigned_number respects clamps has short place calls turns depth = (
  functions-compute c.restricting_keeps_outcomes.ensures old new valid restricts initial look by number unsigned_number respects clamps has short place calls turns depth,
  entries-compute c.restricting_keeps_outcomes.ensures old new valid restricts initial look by number unsigned_number respects clamps has short place calls turns depth,
)

pub returns-clause-in_bounds : goal.returns-clause-in_bounds
returns-clause-in_bounds g c old new valid restricts look by number unsigned_number respects has stay place calls keep turns depth = (
  functions-in-bounds old new valid restricts look by number unsigned_number respects has stay place calls keep turns depth,
  entries-in-bounds old new valid restricts look by number unsigned_number respects has stay place calls keep turns depth,
)
