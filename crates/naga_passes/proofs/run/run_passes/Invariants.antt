use Rattle.std.proofs.Common.{take}
use Rattle.naga_valid.specs.Valid.{HandlesAreValid}
use Rattle.naga_passes.specs.After.{After}
use Rattle.naga_passes.proofs.run.run_passes.Given as goal

-- the passes before the position were run, and all handles are valid
abbrev pub invariant-passes : goal.invariant-passes
invariant-passes l = record { ran : After (take l.position l.passes) l.initial.module l.module; valid : HandlesAreValid l.module }
