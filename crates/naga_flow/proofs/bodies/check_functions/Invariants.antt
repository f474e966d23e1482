use Rattle.std.proofs.Common.{take}
use Rattle.std.specs.Prelude.{All}
use Rattle.naga_arena.specs.Arena.{values}
use Rattle.naga_flow.specs.Bodies.{BodyPasses}
use Rattle.naga_flow.proofs.bodies.check_functions.Given as goal

-- the functions before the index pass
abbrev pub invariant-functions : goal.invariant-functions
invariant-functions l = All BodyPasses (take l.index (values l.functions))
