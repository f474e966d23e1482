use Rattle.naga_typifier.specs.Context.{inner_at}
use Rattle.naga_typing.proofs.TypedModelLemmas.{calls-respect, entering-respects, number-no-vector, operators-respect, stored-found, two-no-truth, vector-parts}
use Rattle.naga_typing.proofs.laws.values.types_are_respected_somewhere.Goals as goal

pub returns-clause-operators : goal.returns-clause-operators
returns-clause-operators c = operators-respect

pub returns-clause-entering : goal.returns-clause-entering
returns-clause-entering c = entering-respects

pub returns-clause-calls : goal.returns-clause-calls
returns-clause-calls c = calls-respect

pub returns-clause-booleans : goal.returns-clause-booleans
returns-clause-booleans c whole = two-no-truth (inner_at whole.types)

pub returns-clause-sizes : goal.returns-clause-sizes
returns-clause-sizes c whole = vector-parts (inner_at whole.types)

pub returns-clause-numbers : goal.returns-clause-numbers
returns-clause-numbers c whole = number-no-vector (inner_at whole.types)

pub returns-clause-stores : goal.returns-clause-stores
returns-clause-stores c = stored-found
