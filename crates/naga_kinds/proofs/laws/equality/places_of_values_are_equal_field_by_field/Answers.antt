use Rattle.naga_kinds.proofs.PartialEqLemmas.{built_ins}
use Rattle.naga_kinds.proofs.laws.equality.places_of_values_are_equal_field_by_field.Goals as goal

pub returns-clause-built_ins : goal.returns-clause-built_ins
returns-clause-built_ins c = built_ins c.args.built_ins.0 c.args.built_ins.1
