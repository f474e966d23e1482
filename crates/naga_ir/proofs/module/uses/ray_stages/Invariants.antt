use Rattle.std.proofs.Common.{◌≡◌, not, take}
use Rattle.std.specs.List.{list_any}
use Rattle.naga_ir.specs.Uses.{is_ray_stage}
use Rattle.naga_ir.proofs.module.uses.ray_stages.Given as goal

abbrev pub invariant-loop-entry_point : goal.invariant-loop-entry_point
invariant-loop-entry_point l =
    (l.rays ≡ list_any (λ entry. is_ray_stage entry.stage) (take l.entry_point-index l.entry_points)) × (l.others ≡ list_any (λ entry. not (is_ray_stage entry.stage)) (take l.entry_point-index l.entry_points))
