use Rattle.std.proofs.Common.{subst}
use Rattle.std.specs.Prelude.{OnOk}
use Rattle.naga_arena.specs.Arena.{values}
use Rattle.naga_typing.specs.Joined.{AddsJoined}
use Rattle.naga_look.specs.Report.{IsEmitLine, headed_entry_points, headed_functions}
use Rattle.naga_look.proofs.ReportLemmas.{AddsJoined-after}
use Rattle.naga_look.proofs.emits.push_emits.Goals as goal

pub returns : goal.returns
returns c =
    let whole = c.args.module.now in
    let result = c.push_entry_points.result in
    let functions = headed_functions (values whole.functions) in
    let entries = headed_entry_points whole.entry_points.items in
    let middle = c.push_functions.new.text in
    let new = c.push_entry_points.new.text in
    let entry_points = subst (λ entries. OnOk result (AddsJoined IsEmitLine (headed_entry_points entries) middle new)) c.as_slice.ensures.value c.push_entry_points.ensures in
    AddsJoined-after IsEmitLine result functions entries c.args.text.now middle new c.in_ok-push_functions.ensures entry_points
