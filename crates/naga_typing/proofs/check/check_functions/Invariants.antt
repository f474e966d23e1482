use Rattle.std.proofs.Common.{take}
use Rattle.std.specs.Prelude.{All}
use Rattle.naga_flow.specs.Bodies.{functions_of}
use Rattle.naga_typing.specs.TypedModules.{FunctionIsTyped}
use Rattle.naga_typing.proofs.check.check_functions.Given as goal

-- the functions before the index are typed
abbrev pub invariant-functions : goal.invariant-functions
invariant-functions l = All (FunctionIsTyped l.«module») (take l.index (functions_of l.«module»))
