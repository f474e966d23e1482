use Rattle.std.proofs.Common.{drop}
use Rattle.naga_flow.proofs.IsFirstNotLemmas.{IsLeft}
use Rattle.naga_typing.specs.TypedFunctions.{FitsIn}
use Rattle.naga_typing.proofs.typed_function.TypedFunction.check.Given as goal

-- the requirements before this one are met
abbrev pub invariant-slots : goal.invariant-slots
invariant-slots l = IsLeft (FitsIn l.self) (drop l.slot-index l.slots) l.slots
