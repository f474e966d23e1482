use Rattle.std.proofs.Common.{List, subst}
use Rattle.naga_namer.specs.Namers.{naming}
use Rattle.naga_namer.specs.ModuleNames.{AddsNames}
use Rattle.naga_arena.specs.Arena.{values}
use Rattle.naga_namer.specs.Declarations.{constant_declarations, entry_point_declarations, function_declarations, global_declarations, override_declarations}
use Rattle.naga_namer.proofs.AddsNamesLemmas.{adds-both}
use Rattle.naga_ir.specs.declared.module.EntryPoint.{EntryPoint}
use Rattle.naga_namer.proofs.reset.name_others.Goals as goal

pub returns : goal.returns
returns c =
    let whole = c.args.«module».now in
    let last = naming c.name_overrides.new.namer in
    let entries = c.name_overrides.new.entries.items in
    let constants = adds-both (naming c.name_globals.new.namer) (naming c.name_constants.new.namer) last
    c.name_globals.new.entries.items c.name_constants.new.entries.items entries
    (constant_declarations c.args.types.now (values whole.constants)) (override_declarations c.args.types.now (values whole.overrides))
    c.in_ok-name_constants.ensures c.in_ok-name_overrides.ensures in
    let globals = adds-both (naming c.name_functions.new.namer) (naming c.name_globals.new.namer) last
    c.name_functions.new.entries.items c.name_globals.new.entries.items entries
    (global_declarations (values whole.global_variables)) _ c.in_ok-name_globals.ensures constants in
    let functions = adds-both (naming c.name_entry_points.new.namer) (naming c.name_functions.new.namer) last
    c.name_entry_points.new.entries.items c.name_functions.new.entries.items entries
    (function_declarations (values whole.functions)) _ c.in_ok-name_functions.ensures globals in
    let P : List EntryPoint → Type 0 = λ items. AddsNames (naming c.args.namer.now) c.args.entries.now.items
    (entry_point_declarations items) (naming c.name_entry_points.new.namer) c.name_entry_points.new.entries.items in
    adds-both (naming c.args.namer.now) (naming c.name_entry_points.new.namer) last
    c.args.entries.now.items c.name_entry_points.new.entries.items entries
    (entry_point_declarations whole.entry_points.items) _ (subst P c.as_slice.ensures.value c.in_ok-name_entry_points.ensures) functions
