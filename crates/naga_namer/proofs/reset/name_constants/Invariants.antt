-- The constants before the index have names.
use Rattle.std.proofs.Common.{take}
use Rattle.naga_arena.specs.Arena.{values}
use Rattle.naga_namer.specs.Declarations.{constant_declarations}
use Rattle.naga_namer.specs.ModuleNames.{AddsNames}
use Rattle.naga_namer.specs.Namers.{naming}
use Rattle.naga_namer.proofs.reset.name_constants.Given as goal

abbrev pub invariant-each : goal.invariant-each
invariant-each l = AddsNames (naming l.initial.namer) l.initial.entries.items
    (constant_declarations l.types (take l.index (values l.constants))) (naming l.namer) l.entries.items
