-- The entry points before the index have names.
use Rattle.std.proofs.Common.{take}
use Rattle.naga_namer.specs.Declarations.{entry_point_declarations}
use Rattle.naga_namer.specs.ModuleNames.{AddsNames}
use Rattle.naga_namer.specs.Namers.{naming}
use Rattle.naga_namer.proofs.reset.name_entry_points.Given as goal

abbrev pub invariant-each : goal.invariant-each
invariant-each l = AddsNames (naming l.initial.namer) l.initial.entries.items
    (entry_point_declarations (take l.index l.entry_points)) (naming l.namer) l.entries.items
