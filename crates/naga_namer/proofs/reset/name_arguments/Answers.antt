use Rattle.std.proofs.Common.{◌≡◌, ◌∷◌, [], Some, subst}
use Rattle.std.specs.List.{slice_get}
use Rattle.std.specs.Prelude.{codes}
use Rattle.naga_namer.specs.Names.{label_or}
use Rattle.naga_namer.specs.Namers.{naming}
use Rattle.naga_namer.specs.ModuleNames.{AddsNames}
use Rattle.naga_namer.specs.declared.name_key.NameKey.{NameKey}
use Rattle.naga_namer.specs.Declarations.{argument_key}
use Rattle.naga_namer.proofs.EachLemmas.{found-at}
use Rattle.naga_namer.proofs.AddsNamesLemmas.{adds-all, adds-more}
use Rattle.naga_ir.specs.declared.module.FunctionArgument as function_argument
use Rattle.naga_namer.proofs.reset.name_arguments.Goals as goal

pub each-preserved : goal.each-preserved
each-preserved c =
    let argument = c.index-arguments-index.result in
    let here : slice_get c.args.arguments.now c.each.index ≡ Some argument =
    found-at c.args.arguments.now c.each.index argument c.each-test.true c.index-arguments-index.is in
    let P : NameKey → Type 0 = λ k. AddsNames (naming c.each.namer) c.each.entries.items ((k, label_or (codes "param") argument.name) ∷ []) (naming c.add_or.new.namer) c.add_or.new.entries.items in
    let named : P (argument_key c.args.owner.now c.each.index) = subst P c.argument.ensures c.in_ok-add_or.ensures in
    adds-more (λ i (it : function_argument.FunctionArgument). (argument_key c.args.owner.now i, label_or (codes "param") it.name) ∷ [])
    c.args.arguments.now c.each.index argument (naming c.args.namer.now) (naming c.each.namer) (naming c.add_or.new.namer)
    c.args.entries.now.items c.each.entries.items c.add_or.new.entries.items
    here c.each.invariant named

pub returns : goal.returns
returns c =
    adds-all (λ i (it : function_argument.FunctionArgument). (argument_key c.args.owner.now i, label_or (codes "param") it.name) ∷ [])
    c.args.arguments.now c.each.index (naming c.args.namer.now) (naming c.each.namer) c.args.entries.now.items c.each.entries.items
    c.each-test.false c.each.invariant
