use Rattle.std.proofs.Common.{◌≡◌}
use Rattle.std.specs.Option.{option_map}
use Rattle.std.specs.Prelude.{option_to_list}
use Rattle.naga_valid.specs.Declarations.{references_of_mesh_info}
use Rattle.naga_valid.specs.Places.{global_overrides, references_found, references_of_payloads}
use Rattle.naga_valid.specs.declared.reference.Reference.TheVariants as reference
use Rattle.naga_compact.specs.Module.Visits.{visit, visits}
use Rattle.naga_compact.proofs.FoldLemmas.{fold-then, fold-three}
use Rattle.naga_compact.proofs.module.roots.visit_entry_point.Goals as goal

pub returns : goal.returns
returns c =
    let entry = c.args.entry_point.now in
    let task = option_to_list (option_map reference.GlobalVariable entry.task_payload) in
    let ray = option_to_list (option_map reference.GlobalVariable entry.incoming_ray_payload) in
    let payloads : c.collect_references-2.new.collector ≡ visits c.visit_mesh_info.new.tracer (references_of_payloads entry) =
    fold-then visit c.visit_mesh_info.new.tracer c.collect_references.new.collector c.collect_references-2.new.collector task ray
    c.collect_references.ensures
    c.collect_references-2.ensures
    in
    fold-three visit c.args.tracer.now c.visit_workgroup_size.new.tracer c.visit_mesh_info.new.tracer c.collect_references-2.new.collector (references_found global_overrides entry.workgroup_size_overrides) (references_found references_of_mesh_info entry.mesh_info) (references_of_payloads entry) c.visit_workgroup_size.ensures c.visit_mesh_info.ensures payloads
