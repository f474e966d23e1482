use Rattle.std.proofs.Common.{drop, map}
use Rattle.naga_flow.proofs.IsFirstNotLemmas.{IsLeft}
use Rattle.naga_typing.specs.TypedFunctions.{FitsIn}
use Rattle.naga_typing.proofs.ChecksLemmas.{of_case}
use Rattle.naga_typing.proofs.typed_function.TypedFunction.check_cases.Given as goal

-- the selector has the types of the values of the cases before this one
abbrev pub invariant-cases : goal.invariant-cases
invariant-cases l = IsLeft (FitsIn l.self) (map (of_case l.selector) (drop l.case-index l.cases)) (map (of_case l.selector) l.cases)
