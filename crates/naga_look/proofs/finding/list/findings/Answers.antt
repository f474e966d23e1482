use Rattle.std.proofs.Common.{◌∙◌, ap, append_assoc, subst}
use Rattle.std.specs.Prelude.{◌++◌}
use Rattle.naga_arena.specs.Arena.{values}
use Rattle.naga_typing.specs.Joined.{AddsJoined}
use Rattle.naga_typing.proofs.JoinedLemmas.{AddsJoined-joined}
use Rattle.naga_look.specs.Findings.{AreFindings, AreFindingsInside, inside_entry_points, inside_functions}
use Rattle.naga_look.proofs.finding.list.findings.Goals as goal

pub returns : goal.returns
returns c =
    let whole = c.args.module.now in
    let limit = c.limit-limit.result in
    let declared = c.in_ok-push_declarations.ensures in
    let layouts = c.in_ok-push_layouts.ensures in
    let functions = inside_functions (values whole.functions) in
    let entries = inside_entry_points whole.entry_points.items in
    let entry_points = subst (λ entries. AddsJoined (AreFindingsInside whole limit) (inside_entry_points entries) c.push_functions.new.found.items c.push_entry_points.new.found.items) c.as_slice.ensures.value c.in_ok-push_entry_points.ensures in
    let lists = AddsJoined-joined (AreFindingsInside whole limit) functions entries c.push_layouts.new.found.items c.push_functions.new.found.items c.push_entry_points.new.found.items c.in_ok-push_functions.ensures entry_points in
    subst (λ limit. AreFindings whole limit c.push_entry_points.new.found.items) c.limit-limit.ensures (record {
      declared = declared.0;
      of_declarations = declared.1;
      layouts = layouts.0;
      of_layouts = layouts.1;
      inside = lists.0;
      of_functions = lists.1;
      joined = lists.2
          ∙ ap (λ t. t ++ lists.0) (layouts.2 ∙ ap (λ t. t ++ layouts.0) (declared.2 ∙ ap (λ t. t ++ declared.0) c.new-found.ensures.items))
          ∙ append_assoc declared.0 layouts.0 lists.0;
    })
