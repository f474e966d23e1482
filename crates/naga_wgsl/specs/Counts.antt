-- Sets of what is used, and of what is used again.
use Rattle.std.specs.Prelude.{◌≡◌, ◌<◌, ◌&&◌, ℕ, Bool, not, List, length, nat_lt, slice_index_or, if◌then◌else◌}
use Rattle.std.proofs.Common.{max}
use Rattle.std.specs.FinSet as set
use Rattle.std.specs.List.{fold}
use Rattle.std.specs.Option.{option_map_or}
use Rattle.naga_ir.specs.declared.module.Function.{Function}
use Rattle.naga_valid.specs.Operands.{expression_of}
use Rattle.naga_valid.specs.declared.reference.Reference.{Reference}
use Rattle.naga_compact.specs.Marks.{put}
use Rattle.naga_wgsl.specs.WrittenOut.{times_in, uses_in}
use Rattle.naga_wgsl.specs.declared.uses.Uses.{Uses}
use Rattle.naga_wgsl.specs.declared.depths.Deepest.{Deepest}

-- one more use of an expression
abbrev pub use_once_more : Uses → ℕ → Uses
use_once_more uses handle =
    if set.contains uses.used.members handle then record uses { again = put uses.again handle } else record uses { used = put uses.used handle }

-- more uses, one after another
abbrev pub use_each : Uses → List ℕ → Uses
use_each = fold use_once_more

-- the expression is used, and not again
abbrev pub is_used_once : Uses → ℕ → Bool
is_used_once uses handle = set.contains uses.used.members handle && not (set.contains uses.again.members handle)

-- one more use of what is referred to, if it is an expression
abbrev pub use_reference : Uses → Reference → Uses
use_reference uses to = option_map_or (use_once_more uses) (expression_of to) uses

-- one set has the expressions that are used, and the other those that are used more than once
pub record AreUsesIn (function : Function) (uses : Uses) : Type 0 where
  pub used : (handle : ℕ) → handle < length function.expressions →
      set.contains uses.used.members handle ≡ nat_lt 0 (times_in (uses_in function) handle)
  pub again : (handle : ℕ) → handle < length function.expressions →
      set.contains uses.again.members handle ≡ nat_lt 1 (times_in (uses_in function) handle)

-- the greatest depth, that of this expression included
abbrev pub deepen : Deepest → ℕ → Deepest
deepen deepest handle = record deepest { depth = max deepest.depth (slice_index_or deepest.depths.now handle 0) }

-- the greatest depth, that of what is referred to included, if it is an expression
abbrev pub deepen_reference : Deepest → Reference → Deepest
deepen_reference deepest to = option_map_or (deepen deepest) (expression_of to) deepest
