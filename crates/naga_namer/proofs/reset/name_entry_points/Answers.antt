use Rattle.std.proofs.Common.{◌≡◌, ℕ, List, Some, subst}
use Rattle.std.specs.List.{slice_get}
use Rattle.naga_namer.specs.Namers.{naming}
use Rattle.naga_namer.specs.ModuleNames.{AddsNames}
use Rattle.naga_namer.specs.declared.name_key.BodyKey.TheVariants as body
use Rattle.std.specs.Prelude.{string_bytes}
use Rattle.naga_namer.specs.Declarations.{body_declarations}
use Rattle.naga_namer.proofs.EachLemmas.{found-at}
use Rattle.naga_namer.proofs.AddsNamesLemmas.{adds-all, adds-more}
use Rattle.naga_ir.specs.declared.module.EntryPoint as entry_point
use Rattle.naga_namer.proofs.reset.name_entry_points.Goals as goal

pub each-preserved : goal.each-preserved
each-preserved c =
    let entry = c.index-entry_points-index.result in
    let here : slice_get c.args.entry_points.now c.each.index ≡ Some entry =
    found-at c.args.entry_points.now c.each.index entry c.each-test.true c.index-entry_points-index.is in
    let P : List ℕ → Type 0 = λ label. AddsNames (naming c.each.namer) c.each.entries.items (body_declarations (body.EntryPoint c.each.index) label entry.function) (naming c.name_body.new.namer) c.name_body.new.entries.items in
    let named : P (string_bytes entry.name) = subst P c.as_str.ensures.value c.in_ok-name_body.ensures in
    adds-more (λ i (it : entry_point.EntryPoint). body_declarations (body.EntryPoint i) (string_bytes it.name) it.function)
    c.args.entry_points.now c.each.index entry (naming c.args.namer.now) (naming c.each.namer) (naming c.name_body.new.namer)
    c.args.entries.now.items c.each.entries.items c.name_body.new.entries.items
    here c.each.invariant named

pub returns : goal.returns
returns c =
    adds-all (λ i (it : entry_point.EntryPoint). body_declarations (body.EntryPoint i) (string_bytes it.name) it.function)
    c.args.entry_points.now c.each.index (naming c.args.namer.now) (naming c.each.namer) c.args.entries.now.items c.each.entries.items
    c.each-test.false c.each.invariant
