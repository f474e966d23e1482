-- The variables before the index have names.
use Rattle.std.proofs.Common.{take}
use Rattle.naga_arena.specs.Arena.{values}
use Rattle.naga_namer.specs.Declarations.{global_declarations}
use Rattle.naga_namer.specs.ModuleNames.{AddsNames}
use Rattle.naga_namer.specs.Namers.{naming}
use Rattle.naga_namer.proofs.reset.name_globals.Given as goal

abbrev pub invariant-each : goal.invariant-each
invariant-each l = AddsNames (naming l.initial.namer) l.initial.entries.items
    (global_declarations (take l.index (values l.globals))) (naming l.namer) l.entries.items
