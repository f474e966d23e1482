-- The overrides of the types before are in the context.
use Rattle.std.proofs.Common.{◌≡◌, ◌<◌, ℕ, Some}
use Rattle.naga_arena.specs.Arena.{value_at}
use Rattle.naga_ir.specs.declared.types.«Type».{«Type» as NamedType}
use Rattle.naga_layouter.specs.Layout.{IsKnownType}
use Rattle.naga_layouter.proofs.size.overrides_are_known.Given as goal

abbrev pub invariant-each : goal.invariant-each
invariant-each l = (handle : ℕ) → handle < l.index → (type : NamedType) → value_at l.gctx.types.now handle ≡ Some type
    → IsKnownType l.gctx type.inner
