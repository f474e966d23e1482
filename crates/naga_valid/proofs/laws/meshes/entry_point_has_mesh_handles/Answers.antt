use Rattle.naga_valid.proofs.HasMeshHandlesLemmas.{HasMeshHandles-entry_point}
use Rattle.naga_valid.proofs.laws.meshes.entry_point_has_mesh_handles.Goals as goal

pub returns : goal.returns
returns c = HasMeshHandles-entry_point c.args.module.now c.requires.valid c.args.position c.args.entry.now c.requires.found
