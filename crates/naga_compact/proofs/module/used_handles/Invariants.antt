use Rattle.naga_compact.specs.Module.Used.{roots}
use Rattle.naga_compact.proofs.IsUsedLemmas.{IsTraced}
use Rattle.naga_compact.proofs.VisitsLemmas.{ahead}
use Rattle.naga_compact.proofs.module.used_handles.Given as goal

abbrev pub invariant-pending : goal.invariant-pending
invariant-pending l = IsTraced l.module (roots l.module l.fn.keep_unused) l.tracer

-- each element is visited at most once
abbrev pub decreases-pending : goal.decreases-pending
decreases-pending l = ahead l.tracer
