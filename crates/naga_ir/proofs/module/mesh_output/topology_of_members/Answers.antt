use Rattle.naga_ir.proofs.MeshOfMembersLemmas.{last_read-take_more}
use Rattle.naga_ir.specs.MeshOutput.{topology_bound}
use Rattle.naga_ir.specs.declared.types.StructMember.{StructMember}
use Rattle.naga_ir.proofs.module.mesh_output.topology_of_members.Goals as goal

pub loop-member-preserved : goal.loop-member-preserved
loop-member-preserved c =
    let more = last_read-take_more (λ (member : StructMember). topology_bound member.binding) c.args.members.now c.loop-member.member-index _ c.loop-member-test.true c.member-item.is in
    cc
