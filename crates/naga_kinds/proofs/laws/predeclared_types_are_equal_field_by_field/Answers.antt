use Rattle.naga_kinds.proofs.PartialEqLemmas.{predeclared_types}
use Rattle.naga_kinds.proofs.laws.predeclared_types_are_equal_field_by_field.Goals as goal

pub returns : goal.returns
returns c = predeclared_types c.args.first.now c.args.second.now
