use Rattle.naga_kinds.proofs.PartialEqLemmas.{math_functions}
use Rattle.naga_kinds.proofs.laws.equality.operators_and_functions_are_equal_field_by_field.Goals as goal

pub returns-clause-mathematical : goal.returns-clause-mathematical
returns-clause-mathematical c = math_functions c.args.mathematical.0 c.args.mathematical.1
