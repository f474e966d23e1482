use Rattle.std.proofs.Common.{◌++◌}
use Rattle.std.proofs.lemmas.List.Elements.{Contains-append_left, Contains-append_right}
use Rattle.naga_valid.specs.Declarations.{references_of_mesh_info}
use Rattle.naga_valid.specs.Places.{global_overrides, references_found, references_of_payloads}
use Rattle.naga_valid.specs.declared.place.Place.TheVariants as place
use Rattle.naga_valid.proofs.FaultLemmas.{ChecksList-last}
use Rattle.naga_valid.proofs.handles.function.check_entry_point.Goals as goal

pub returns-in-Err-check_mesh_info : goal.returns-in-Err-check_mesh_info
returns-in-Err-check_mesh_info c =
    let sizes = references_found global_overrides c.args.entry_point.now.workgroup_size_overrides in
    let mesh = references_found references_of_mesh_info c.args.entry_point.now.mesh_info in
    let payloads = references_of_payloads c.args.entry_point.now in
    let found = c.in-Err-check_mesh_info.ensures in
    (found.0, Contains-append_right sizes (mesh ++ payloads) c.in-Err-check_mesh_info.fault.reference (Contains-append_left mesh payloads c.in-Err-check_mesh_info.fault.reference found.1), found.2)

pub returns : goal.returns
returns c =
    let sizes = references_found global_overrides c.args.entry_point.now.workgroup_size_overrides in
    let mesh = references_found references_of_mesh_info c.args.entry_point.now.mesh_info in
    let payloads = references_of_payloads c.args.entry_point.now in
    let at = place.EntryPoint c.args.position in
    ChecksList-last c.args.limits.now sizes (mesh ++ payloads) at c.check_payloads.result c.in_default.ensures
    (ChecksList-last c.args.limits.now mesh payloads at c.check_payloads.result c.in_default-check_mesh_info.ensures c.check_payloads.ensures)
