use Rattle.std.proofs.Common.{rules, arith}
use Rattle.naga_shape.proofs.ArgumentsLemmas.{Selects-none, Selects-one}
use Rattle.naga_shape.proofs.arguments.rule_of.Goals as goal

pub returns-in-empty-clause-some : goal.returns-in-empty-clause-some
returns-in-empty-clause-some c = Selects-none c.args.arguments.now (omega (arith, c.in-empty.len_below))

pub returns-in-len1-clause-some : goal.returns-in-len1-clause-some
returns-in-len1-clause-some c = Selects-one c.args.arguments.now c.argument-item.result (omega (arith, c.in-len1.len_at_least, c.in-len1.len_below)) c.argument-item.is (search rules)
