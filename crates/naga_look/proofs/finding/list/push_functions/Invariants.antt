use Rattle.std.proofs.Common.{take}
use Rattle.naga_arena.specs.Arena.{values}
use Rattle.naga_typing.specs.Joined.{AddsJoined}
use Rattle.naga_look.specs.Findings.{AreFindingsInside, inside_functions}
use Rattle.naga_look.proofs.finding.list.push_functions.Given as goal

-- the findings in the functions before the index were appended
abbrev pub invariant-functions : goal.invariant-functions
invariant-functions l =
    AddsJoined (AreFindingsInside l.module l.limit) (take l.index (inside_functions (values l.module.functions))) l.initial.found.items l.found.items
