use Rattle.std.proofs.Common.{take}
use Rattle.naga_arena.specs.Arena.{values}
use Rattle.naga_typing.specs.Joined.{AddsJoined}
use Rattle.naga_look.specs.Report.{IsEmitLine, headed_functions}
use Rattle.naga_look.proofs.emits.push_functions.Given as goal

-- the lines of the functions before the index were appended
abbrev pub invariant-functions : goal.invariant-functions
invariant-functions l =
    AddsJoined IsEmitLine (take l.index (headed_functions (values l.functions))) l.initial.text l.text
