-- The members of the types before the index have names.
use Rattle.std.proofs.Common.{take}
use Rattle.naga_arena.specs.Arena.{values}
use Rattle.naga_namer.specs.Declarations.{member_scopes}
use Rattle.naga_namer.specs.ModuleNames.{AddsScopes}
use Rattle.naga_namer.specs.Namers.{naming}
use Rattle.naga_namer.proofs.reset.name_all_members.Given as goal

abbrev pub invariant-each : goal.invariant-each
invariant-each l = AddsScopes (naming l.namer).reserved l.initial.entries.items
    (member_scopes (take l.index (values l.types))) l.entries.items
