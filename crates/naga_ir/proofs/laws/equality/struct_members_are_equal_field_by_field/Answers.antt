use Rattle.naga_ir.proofs.TypeOfLemmas.{member_of-decides}
use Rattle.naga_ir.proofs.laws.equality.struct_members_are_equal_field_by_field.Goals as goal

pub returns : goal.returns
returns c = member_of-decides c.args.first.now c.args.second.now
