use Rattle.naga_ir.proofs.TypeOfLemmas.{type_of-decides}
use Rattle.naga_ir.specs.contracts.types.TypeHash.TheImpl.Laws.{respects_eq-law}
use Rattle.naga_ir.proofs.laws.equality.equal_types_have_one_hash.Goals as goal

pub returns : goal.returns
returns c = λ same. respects_eq-law c.args.first.now c.args.second.now ((type_of-decides c.args.first.now c.args.second.now).1 same)
