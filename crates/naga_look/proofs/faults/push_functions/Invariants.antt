use Rattle.std.proofs.Common.{take}
use Rattle.naga_arena.specs.Arena.{values}
use Rattle.naga_typing.specs.Joined.{AddsJoined}
use Rattle.naga_look.specs.Report.{AreFunctionLines, headed_functions, limit_of}
use Rattle.naga_look.proofs.faults.push_functions.Given as goal

-- the lines of the functions before the index were appended
abbrev pub invariant-functions : goal.invariant-functions
invariant-functions l =
    AddsJoined (AreFunctionLines l.module (limit_of l.extent)) (take l.index (headed_functions (values l.module.functions))) l.initial.text l.text
