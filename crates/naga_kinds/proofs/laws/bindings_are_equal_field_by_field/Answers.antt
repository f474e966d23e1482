use Rattle.naga_kinds.proofs.PartialEqLemmas.{bindings}
use Rattle.naga_kinds.proofs.laws.bindings_are_equal_field_by_field.Goals as goal

pub returns : goal.returns
returns c = bindings c.args.first.now c.args.second.now
