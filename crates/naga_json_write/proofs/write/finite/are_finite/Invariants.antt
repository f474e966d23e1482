use Rattle.std.proofs.Common.{◌≡◌, map}
use Rattle.std.specs.List.{list_all}
use Rattle.naga_json_write.specs.Finite.{are_finite, is_finite}
use Rattle.naga_json_write.proofs.write.finite.are_finite.Given as goal

-- the expressions that are left decide
abbrev pub invariant-loop-expression : goal.invariant-loop-expression
invariant-loop-expression l = list_all is_finite (map (λ entry. entry.1) l.expression-iterator) ≡ are_finite l.expressions
