use Rattle.std.proofs.Common.{◌∷◌, [], ◌++◌, List, subst}
use Rattle.naga_namer.specs.Namers.{naming}
use Rattle.naga_namer.specs.ModuleNames.{AddsNames}
use Rattle.naga_namer.specs.declared.name_key.NameKey.{NameKey}
use Rattle.naga_arena.specs.Arena.{values}
use Rattle.naga_namer.specs.Declarations.{argument_declarations, body_key, local_declarations}
use Rattle.naga_namer.proofs.AddsNamesLemmas.{adds-both}
use Rattle.naga_ir.specs.declared.module.FunctionArgument.{FunctionArgument}
use Rattle.naga_namer.proofs.reset.name_body.Goals as goal

pub returns : goal.returns
returns c =
    let owner = c.args.owner.now in
    let whole = c.args.function.now in
    let P : NameKey → Type 0 = λ k. AddsNames (naming c.args.namer.now) c.args.entries.now.items ((k, c.args.label.now) ∷ []) (naming c.add.new.namer) c.add.new.entries.items in
    let Q : List FunctionArgument → Type 0 = λ arguments. AddsNames (naming c.add.new.namer) c.add.new.entries.items
    (argument_declarations owner arguments) (naming c.name_arguments.new.namer) c.name_arguments.new.entries.items in
    adds-both (naming c.args.namer.now) (naming c.add.new.namer) (naming c.name_locals.new.namer)
    c.args.entries.now.items c.add.new.entries.items c.name_locals.new.entries.items
    ((body_key owner, c.args.label.now) ∷ []) (argument_declarations owner whole.arguments.items ++ local_declarations owner (values whole.local_variables))
    (subst P c.key.ensures c.in_ok-add.ensures)
    (adds-both (naming c.add.new.namer) (naming c.name_arguments.new.namer) (naming c.name_locals.new.namer)
    c.add.new.entries.items c.name_arguments.new.entries.items c.name_locals.new.entries.items
    (argument_declarations owner whole.arguments.items) (local_declarations owner (values whole.local_variables))
    (subst Q c.as_slice.ensures.value c.in_ok-name_arguments.ensures) c.in_ok-name_locals.ensures)
