use Rattle.std.proofs.Common.{◌≡◌, Some}
use Rattle.std.specs.List.{slice_get}
use Rattle.naga_layouter.proofs.LayingLemmas.{here-at}
use Rattle.naga_wgsl.specs.Structures.{member_line}
use Rattle.naga_wgsl.proofs.ItemsLemmas.{items-end, items-more, items-stopped}
use Rattle.naga_wgsl.proofs.structure.write_lines.Goals as goal

pub returns : goal.returns
returns c =
    let line_of = member_line c.args.known.now.types.now c.args.known.now.layouts.now c.args.known.now.texts.now c.args.names.now c.args.handle c.args.span c.args.members.now in
    items-end line_of c.args.members.now _ c.args.text.now c.each.text c.each.text c.each.index tt c.each-test.false c.each.invariant

pub each-preserved : goal.each-preserved
each-preserved c =
    let line_of = member_line c.args.known.now.types.now c.args.known.now.layouts.now c.args.known.now.texts.now c.args.names.now c.args.handle c.args.span c.args.members.now in
    let members = c.args.members.now in
    let member = c.index-members-index.result in
    let here : slice_get members c.each.index ≡ Some member = here-at members c.each.index member c.each-test.true c.index-members-index.is in
    items-more line_of members _ c.args.text.now c.each.text c.write_line.new.text c.each.index member c.in-Ok.field-0 here c.each.invariant c.in-Ok.ensures

pub returns-in-Err : goal.returns-in-Err
returns-in-Err c =
    let line_of = member_line c.args.known.now.types.now c.args.known.now.layouts.now c.args.known.now.texts.now c.args.names.now c.args.handle c.args.span c.args.members.now in
    let members = c.args.members.now in
    let member = c.index-members-index.result in
    let here : slice_get members c.each.index ≡ Some member = here-at members c.each.index member c.each-test.true c.index-members-index.is in
    items-stopped line_of members _ c.args.text.now c.each.text c.write_line.new.text c.each.index member c.in-Err.error here c.each.invariant c.in-Err.ensures
