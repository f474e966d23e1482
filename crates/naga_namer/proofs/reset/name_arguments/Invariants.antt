-- The arguments before the index have names.
use Rattle.std.proofs.Common.{take}
use Rattle.naga_namer.specs.Declarations.{argument_declarations}
use Rattle.naga_namer.specs.ModuleNames.{AddsNames}
use Rattle.naga_namer.specs.Namers.{naming}
use Rattle.naga_namer.proofs.reset.name_arguments.Given as goal

abbrev pub invariant-each : goal.invariant-each
invariant-each l = AddsNames (naming l.initial.namer) l.initial.entries.items
    (argument_declarations l.owner (take l.index l.arguments)) (naming l.namer) l.entries.items
