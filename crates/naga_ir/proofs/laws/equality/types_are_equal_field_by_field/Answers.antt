use Rattle.naga_ir.proofs.TypeOfLemmas.{type_of-decides}
use Rattle.naga_ir.proofs.laws.equality.types_are_equal_field_by_field.Goals as goal

pub returns : goal.returns
returns c = type_of-decides c.args.first.now c.args.second.now
