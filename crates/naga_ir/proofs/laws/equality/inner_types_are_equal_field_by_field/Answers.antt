use Rattle.naga_ir.proofs.TypeOfLemmas.{inner_of-decides}
use Rattle.naga_ir.proofs.laws.equality.inner_types_are_equal_field_by_field.Goals as goal

pub returns : goal.returns
returns c = inner_of-decides c.args.first.now c.args.second.now
