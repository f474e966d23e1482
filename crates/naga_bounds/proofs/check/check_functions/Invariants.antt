use Rattle.std.proofs.Common.{take}
use Rattle.std.specs.Prelude.{All}
use Rattle.naga_flow.specs.Bodies.{functions_of}
use Rattle.naga_bounds.specs.Modules.{AccessesFitIn}
use Rattle.naga_bounds.proofs.check.check_functions.Given as goal

-- the accesses of the functions before the index fit
abbrev pub invariant-functions : goal.invariant-functions
invariant-functions l = All (AccessesFitIn l.«module») (take l.index (functions_of l.«module»))
