use Rattle.naga_meaning.proofs.ThingOfLemmas.{example-different, example-equal, example-pointers, example-variables}
use Rattle.naga_meaning.proofs.laws.things.things_are_computed.Goals as goal

pub returns-clause-types : goal.returns-clause-types
returns-clause-types g c = example-equal

pub returns-clause-pointers : goal.returns-clause-pointers
returns-clause-pointers g c = example-pointers

pub returns-clause-different : goal.returns-clause-different
returns-clause-different g c = example-different

pub returns-clause-variables : goal.returns-clause-variables
returns-clause-variables g c = example-variables
