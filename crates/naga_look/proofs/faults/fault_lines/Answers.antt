use Rattle.std.proofs.Common.{◌∙◌, ap, subst}
use Rattle.std.specs.Prelude.{◌++◌}
use Rattle.naga_arena.specs.Arena.{values}
use Rattle.naga_typing.specs.Joined.{AddsJoined}
use Rattle.naga_typing.proofs.JoinedLemmas.{AddsJoined-joined}
use Rattle.naga_look.specs.Report.{AreFunctionLines, headed_entry_points, headed_functions, limit_of}
use Rattle.naga_look.proofs.faults.fault_lines.Goals as goal

pub returns : goal.returns
returns c =
    let whole = c.args.module.now in
    let limit = limit_of c.args.extent in
    let declared = c.in_ok-push_declarations.ensures in
    let functions = headed_functions (values whole.functions) in
    let entries = headed_entry_points whole.entry_points.items in
    let entry_points = subst (λ entries. AddsJoined (AreFunctionLines whole limit) (headed_entry_points entries) c.push_functions.new.text c.push_entry_points.new.text) c.as_slice.ensures.value c.in_ok-push_entry_points.ensures in
    let lines = AddsJoined-joined (AreFunctionLines whole limit) functions entries c.push_declarations.new.text c.push_functions.new.text c.push_entry_points.new.text c.in_ok-push_functions.ensures entry_points in
    record {
      declared = declared.0;
      of_declarations = declared.1;
      faults = lines.0;
      of_functions = lines.1;
      joined = lines.2 ∙ ap (λ t. t ++ lines.0) (declared.2 ∙ ap (λ t. t ++ declared.0) c.new-text.ensures);
    }
