-- The functions before the index have names.
use Rattle.std.proofs.Common.{take}
use Rattle.naga_arena.specs.Arena.{values}
use Rattle.naga_namer.specs.Declarations.{function_declarations}
use Rattle.naga_namer.specs.ModuleNames.{AddsNames}
use Rattle.naga_namer.specs.Namers.{naming}
use Rattle.naga_namer.proofs.reset.name_functions.Given as goal

abbrev pub invariant-each : goal.invariant-each
invariant-each l = AddsNames (naming l.initial.namer) l.initial.entries.items
    (function_declarations (take l.index (values l.functions))) (naming l.namer) l.entries.items
