-- The members before the index have names.
use Rattle.std.proofs.Common.{take}
use Rattle.naga_namer.specs.Declarations.{members_of_structure}
use Rattle.naga_namer.specs.ModuleNames.{AddsNames}
use Rattle.naga_namer.specs.Namers.{naming}
use Rattle.naga_namer.proofs.reset.name_each_member.Given as goal

abbrev pub invariant-each : goal.invariant-each
invariant-each l = AddsNames (naming l.initial.namer) l.initial.entries.items
    (members_of_structure l.ty (take l.index l.members)) (naming l.namer) l.entries.items
