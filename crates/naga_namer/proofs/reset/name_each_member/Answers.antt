use Rattle.std.proofs.Common.{◌≡◌, ◌∷◌, [], Some}
use Rattle.std.specs.List.{slice_get}
use Rattle.naga_namer.specs.Namers.{naming}
use Rattle.naga_namer.proofs.EachLemmas.{found-at}
use Rattle.naga_namer.proofs.AddsNamesLemmas.{adds-all, adds-more}
use Rattle.naga_ir.specs.declared.types.StructMember.{StructMember}
use Rattle.std.specs.Prelude.{codes}
use Rattle.naga_namer.specs.Names.{label_or}
use Rattle.naga_namer.specs.declared.name_key.NameKey.TheVariants as key
use Rattle.naga_namer.proofs.reset.name_each_member.Goals as goal

pub each-preserved : goal.each-preserved
each-preserved c =
    let member = c.index-members-index.result in
    let here : slice_get c.args.members.now c.each.index ≡ Some member =
    found-at c.args.members.now c.each.index member c.each-test.true c.index-members-index.is in
    adds-more (λ i (it : StructMember). (key.StructMember c.args.ty i, label_or (codes "member") it.name) ∷ [])
    c.args.members.now c.each.index member (naming c.args.namer.now) (naming c.each.namer) (naming c.add_or.new.namer)
    c.args.entries.now.items c.each.entries.items c.add_or.new.entries.items
    here c.each.invariant c.in_ok-add_or.ensures

pub returns : goal.returns
returns c =
    adds-all (λ i (it : StructMember). (key.StructMember c.args.ty i, label_or (codes "member") it.name) ∷ [])
    c.args.members.now c.each.index (naming c.args.namer.now) (naming c.each.namer) c.args.entries.now.items c.each.entries.items
    c.each-test.false c.each.invariant
