use Rattle.naga_bounds.specs.Laws.{IsSizeIn}
use Rattle.naga_bounds.specs.Modules.{typed_in}
use Rattle.naga_bounds.proofs.PartsModelLemmas.{elements-there, indices-respected, lengths-stay, parts-there}
use Rattle.naga_bounds.proofs.laws.parts.types_have_parts_somewhere.Goals as goal

pub returns-clause-parts : goal.returns-clause-parts
returns-clause-parts c = parts-there

pub returns-clause-indices : goal.returns-clause-indices
returns-clause-indices c = indices-respected

pub returns-clause-elements : goal.returns-clause-elements
returns-clause-elements c whole inside = elements-there whole (IsSizeIn (typed_in whole inside))

pub returns-clause-lengths : goal.returns-clause-lengths
returns-clause-lengths c = lengths-stay
