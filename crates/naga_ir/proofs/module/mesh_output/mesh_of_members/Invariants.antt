use Rattle.std.proofs.Common.{◌≡◌, take}
use Rattle.naga_ir.proofs.MeshOfMembersLemmas.{WereGiven}
use Rattle.naga_ir.specs.MeshOutput.{mesh_of_members}
use Rattle.naga_ir.specs.declared.module.mesh_output.Mesh.{Mesh}
use Rattle.naga_ir.proofs.module.mesh_output.mesh_of_members.Given as goal

abbrev pub invariant-loop-member : goal.invariant-loop-member
invariant-loop-member l =
    let mesh : Mesh = record { topology = l.topology; vertices = l.vertices; primitives = l.primitives; error = l.error } in
    (mesh ≡ mesh_of_members l.types (take l.member-index l.members)) × WereGiven l.given (take l.member-index l.members)
