use Rattle.std.proofs.Common.{◌≡◌, map}
use Rattle.std.specs.List.{list_all}
use Rattle.naga_json_write.specs.Finite.{are_finite, functions_are_finite}
use Rattle.naga_json_write.proofs.write.finite.functions_are_finite.Given as goal

-- the functions that are left decide
abbrev pub invariant-loop-function : goal.invariant-loop-function
invariant-loop-function l = list_all (λ function. are_finite function.expressions) (map (λ entry. entry.1) l.function-iterator) ≡ functions_are_finite l.functions
