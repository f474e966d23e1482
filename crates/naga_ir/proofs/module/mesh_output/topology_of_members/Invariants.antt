use Rattle.std.proofs.Common.{◌≡◌, take}
use Rattle.naga_ir.specs.MeshOutput.{last_read, topology_bound}
use Rattle.naga_ir.proofs.module.mesh_output.topology_of_members.Given as goal

abbrev pub invariant-loop-member : goal.invariant-loop-member
invariant-loop-member l =
    l.topology ≡ last_read (λ member. topology_bound member.binding) (take l.member-index l.members)
