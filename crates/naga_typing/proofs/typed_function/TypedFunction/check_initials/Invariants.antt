use Rattle.std.proofs.Common.{take}
use Rattle.std.specs.Prelude.{All}
use Rattle.naga_typing.specs.Initials.{initials}
use Rattle.naga_typing.specs.TypedFunctions.{FitsIn}
use Rattle.naga_typing.proofs.typed_function.TypedFunction.check_initials.Given as goal

-- the initial values of the declarations before the position have the types declared
abbrev pub invariant-declarations : goal.invariant-declarations
invariant-declarations l = All (FitsIn l.self) (take l.position (initials l.self.«module».now l.self.function.now l.kind))
