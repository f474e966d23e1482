use Rattle.naga_valid.proofs.HasMeshHandlesLemmas.{HasMeshHandles-within}
use Rattle.naga_valid.proofs.laws.meshes.global_variable_has_mesh_handles.Goals as goal

pub returns : goal.returns
returns c = HasMeshHandles-within c.args.module.now c.requires.valid c.args.variable c.requires.within
