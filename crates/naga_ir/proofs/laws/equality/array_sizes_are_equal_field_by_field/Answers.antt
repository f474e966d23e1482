use Rattle.naga_ir.proofs.TypeOfLemmas.{array_size-decides}
use Rattle.naga_ir.proofs.laws.equality.array_sizes_are_equal_field_by_field.Goals as goal

pub returns : goal.returns
returns c = array_size-decides c.args.first c.args.second
