use Rattle.std.proofs.Common.{◌≡◌, false}
use Rattle.std.specs.List.{list_any}
use Rattle.naga_ir.specs.Uses.{has_mesh_member}
use Rattle.naga_ir.proofs.module.uses.have_mesh_member.Given as goal

abbrev pub invariant-loop-ty : goal.invariant-loop-ty
invariant-loop-ty l = list_any (λ entry. has_mesh_member entry.1.now.inner) l.yielded ≡ false
