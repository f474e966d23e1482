use Rattle.naga_json_write.proofs.write.expression.ExpressionTryToJson.try_write.Goals as goal

pub returns-in-Literal-clause-refused : goal.returns-in-Literal-clause-refused
returns-in-Literal-clause-refused c = rw c.in-Literal.is c.try_write_holder.ensures.refused
