use Rattle.naga_compact.proofs.KeptElementsLemmas.{kept_elements-found, length-kept_elements}
use Rattle.naga_compact.proofs.laws.kept_expressions_are_at_their_new_indices.Goals as goal

pub returns-clause-count : goal.returns-clause-count
returns-clause-count c = length-kept_elements

pub returns-clause-each : goal.returns-clause-each
returns-clause-each c = kept_elements-found
