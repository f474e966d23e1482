-- The types before the index have names.
use Rattle.std.proofs.Common.{take}
use Rattle.std.specs.Prelude.{nat_eq}
use Rattle.std.specs.HashMap.{get}
use Rattle.naga_arena.specs.Arena.{values}
use Rattle.naga_namer.specs.Declarations.{declarations_of_types}
use Rattle.naga_namer.specs.ModuleNames.{AddsNames}
use Rattle.naga_namer.specs.Namers.{naming}
use Rattle.naga_namer.proofs.reset.name_each_type.Given as goal

abbrev pub invariant-each : goal.invariant-each
invariant-each l = AddsNames (naming l.initial.namer) l.initial.entries.items
    (declarations_of_types (get nat_eq l.stages) (take l.index (values l.types))) (naming l.namer) l.entries.items
