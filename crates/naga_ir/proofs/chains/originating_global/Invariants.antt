use Rattle.std.proofs.Common.{ℕ, ◌<◌, length, Option}
use Rattle.naga_ir.specs.Chain.{OriginatesIn}
use Rattle.naga_ir.proofs.chains.originating_global.Given as goal

-- each origin of the current handle is an origin of the pointer at the start of the path
abbrev pub invariant-path : goal.invariant-path
invariant-path l = record {
  within : l.handle < length l.expressions;
  leads : (global : Option ℕ) → OriginatesIn l.expressions l.handle global → OriginatesIn l.expressions l.fn.pointer global;
}

abbrev pub decreases-path : goal.decreases-path
decreases-path l = l.handle
