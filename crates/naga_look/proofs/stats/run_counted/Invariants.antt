use Rattle.std.proofs.Common.{take}
use Rattle.naga_valid.specs.Valid.{HandlesAreValid}
use Rattle.naga_look.specs.Stats.{Accounts}
use Rattle.naga_look.proofs.stats.run_counted.Given as goal

-- the account is that of the passes before the position, and all handles are valid
abbrev pub invariant-passes : goal.invariant-passes
invariant-passes l = record {
  counted : Accounts l.detail (take l.position l.passes) l.initial.module l.module l.counts.items l.notes;
  valid : HandlesAreValid l.module;
}
