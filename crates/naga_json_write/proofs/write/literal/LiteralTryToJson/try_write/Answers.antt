use Rattle.std.proofs.Common.{refl}
use Rattle.naga_json_write.proofs.write.literal.LiteralTryToJson.try_write.Goals as goal

pub returns-in-F64-clause-refused : goal.returns-in-F64-clause-refused
returns-in-F64-clause-refused c = rw c.in-F64.is c.try_write_holder.ensures.refused

pub returns-in-F32-clause-refused : goal.returns-in-F32-clause-refused
returns-in-F32-clause-refused c = rw c.in-F32.is c.try_write_holder-in-F32.ensures.refused

pub returns-in-AbstractFloat-clause-refused : goal.returns-in-AbstractFloat-clause-refused
returns-in-AbstractFloat-clause-refused c = rw c.in-AbstractFloat.is c.try_write_holder-in-AbstractFloat.ensures.refused

pub returns-in_ok-write_holder-in-F16-clause-written : goal.returns-in_ok-write_holder-in-F16-clause-written
returns-in_ok-write_holder-in-F16-clause-written c = rw c.in-F16.is (_, refl, (c.in_ok-write_holder-in-F16.ensures).tokens)

pub returns-in_ok-write_holder-in-U16-clause-written : goal.returns-in_ok-write_holder-in-U16-clause-written
returns-in_ok-write_holder-in-U16-clause-written c = rw c.in-U16.is (_, refl, (c.in_ok-write_holder-in-U16.ensures).tokens)

pub returns-in_ok-write_holder-in-I16-clause-written : goal.returns-in_ok-write_holder-in-I16-clause-written
returns-in_ok-write_holder-in-I16-clause-written c = rw c.in-I16.is (_, refl, (c.in_ok-write_holder-in-I16.ensures).tokens)

pub returns-in_ok-write_holder-in-U32-clause-written : goal.returns-in_ok-write_holder-in-U32-clause-written
returns-in_ok-write_holder-in-U32-clause-written c = rw c.in-U32.is (_, refl, (c.in_ok-write_holder-in-U32.ensures).tokens)

pub returns-in_ok-write_holder-in-I32-clause-written : goal.returns-in_ok-write_holder-in-I32-clause-written
returns-in_ok-write_holder-in-I32-clause-written c = rw c.in-I32.is (_, refl, (c.in_ok-write_holder-in-I32.ensures).tokens)

pub returns-in_ok-write_holder-in-U64-clause-written : goal.returns-in_ok-write_holder-in-U64-clause-written
returns-in_ok-write_holder-in-U64-clause-written c = rw c.in-U64.is (_, refl, (c.in_ok-write_holder-in-U64.ensures).tokens)

pub returns-in_ok-write_holder-in-I64-clause-written : goal.returns-in_ok-write_holder-in-I64-clause-written
returns-in_ok-write_holder-in-I64-clause-written c = rw c.in-I64.is (_, refl, (c.in_ok-write_holder-in-I64.ensures).tokens)

pub returns-in_ok-write_holder-in-Bool-clause-written : goal.returns-in_ok-write_holder-in-Bool-clause-written
returns-in_ok-write_holder-in-Bool-clause-written c = rw c.in-Bool.is (_, refl, (c.in_ok-write_holder-in-Bool.ensures).tokens)

pub returns-in_ok-write_holder-in-AbstractInt-clause-written : goal.returns-in_ok-write_holder-in-AbstractInt-clause-written
returns-in_ok-write_holder-in-AbstractInt-clause-written c = rw c.in-AbstractInt.is (_, refl, (c.in_ok-write_holder-in-AbstractInt.ensures).tokens)

pub returns-in-AbstractFloat-clause-written : goal.returns-in-AbstractFloat-clause-written
returns-in-AbstractFloat-clause-written c = rw c.in-AbstractFloat.is c.try_write_holder-in-AbstractFloat.ensures.written
