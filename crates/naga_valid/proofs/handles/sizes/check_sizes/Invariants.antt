use Rattle.std.proofs.Common.{ℕ, ◌<◌}
use Rattle.naga_valid.specs.Valid.{RefersBefore, SizePrecedes}
use Rattle.naga_valid.proofs.handles.sizes.check_sizes.Given as goal

-- the sizes of the types that were passed precede, and the global expressions that were tested refer only to these
-- types
abbrev pub invariant-loop-index : goal.invariant-loop-index
invariant-loop-index l = record {
  precede : (ty : ℕ) → ty < l.index → SizePrecedes l.module ty;
  tested : (expression : ℕ) → expression < l.tested → RefersBefore l.module l.index expression;
}
