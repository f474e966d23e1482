use Rattle.std.proofs.Common.{◌≡◌}
use Rattle.std.specs.List.{list_any}
use Rattle.naga_ir.specs.Uses.{is_ray_query, is_acceleration_structure}
use Rattle.naga_ir.proofs.module.uses.ray_types.Given as goal

abbrev pub invariant-loop-ty : goal.invariant-loop-ty
invariant-loop-ty l =
    (l.queries ≡ list_any (λ entry. is_ray_query entry.1.now.inner) l.yielded) × (l.structures ≡ list_any (λ entry. is_acceleration_structure entry.1.now.inner) l.yielded)
