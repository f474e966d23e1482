-- The expressions of a function that a text writes out where they are used.
--
-- Literals, constants, variables, arguments and access chains to these always are. Of the others, those that may be
-- inline are if they are in the offset of a sample, which must be constant, or if they are used once, have no name of
-- their own, and nest few enough expressions.
use Rattle.std.specs.Prelude.{◌≡◌, ◌↔◌, ◌⊎◌, ◌<◌, ◌≤◌, ◌++◌, ℕ, zero, suc, Bool, true, List, length, map, count_by, flat_map, nat_eq, if◌then◌else◌}
use Rattle.std.proofs.Common.{max}
use Rattle.std.specs.FinSet as set
use Rattle.std.specs.List.{Contains, filter_map, fold}
use Rattle.std.specs.Prelude.{Option, None}
use Rattle.indexmap.specs.IndexMap.{keys}
use Rattle.naga_arena.specs.Arena.{value_at, values}
use Rattle.naga_arena.specs.declared.span.Span.{Span}
use Rattle.naga_ir.specs.View.{tree_of}
use Rattle.naga_ir.specs.declared.expression.Expression.{Expression}
use Rattle.naga_ir.specs.declared.expression.Expression.TheVariants.{ImageSample}
use Rattle.naga_ir.specs.declared.module.Function.{Function}
use Rattle.naga_sets.specs.HandleSet.{BoundedSet}
use Rattle.naga_valid.specs.Operands.{operands_of}
use Rattle.naga_flow.specs.Uses.{operands_found}
use Rattle.naga_compact.specs.Operands.{IsReached, used_by}
use Rattle.naga_meaning.specs.Readings.{chains_in}
use Rattle.naga_wgsl.specs.Pure.{may_be_inline}

-- ---- uses

-- the operands of all expressions of an arena
abbrev pub operands_in : List (Expression × Span) → List ℕ
operands_in arena = flat_map operands_of (values arena)

-- each use of an expression: as an operand of another one, or by a statement
abbrev pub uses_in : Function → List ℕ
uses_in function = operands_in function.expressions ++ used_by (tree_of function.body)

-- how often the number is in the list
abbrev pub times_in : List ℕ → ℕ → ℕ
times_in list number = count_by (λ other. nat_eq number other) list

-- ---- offsets

-- the offset of a sample
abbrev pub offset_of : Expression → Option ℕ
offset_of (ImageSample image sampler gather coordinate array_index offset level depth_ref clamp_to_edge) = offset
offset_of _ = None

-- the offsets of the samples that have one
abbrev pub offsets_in : List (Expression × Span) → List ℕ
offsets_in = filter_map (λ entry. offset_of entry.0)

-- the expression is the offset of a sample, or an operand of such an expression, and so on
abbrev pub IsInOffset : List (Expression × Span) → ℕ → Type 0
IsInOffset arena = IsReached arena (λ handle. (handle < length arena) × Contains (offsets_in arena) handle)

-- ---- depths

-- the greatest of these numbers, or 0 if there are none
abbrev pub greatest : List ℕ → ℕ
greatest = fold max 0

-- How many expressions are written one inside another where an expression is used: none if it is not written out there.
-- At most this many are.
abbrev pub depth_within : (written : ℕ → Bool) (operands : ℕ → List ℕ) (steps : ℕ) → ℕ → ℕ
depth_within written operands zero handle = 0
depth_within written operands (suc steps) handle =
    if written handle then suc (greatest (map (depth_within written operands steps) (operands handle))) else 0

-- how many expressions of an arena are written one inside another where this one is written out
abbrev pub depth_in : (written : ℕ → Bool) → List (Expression × Span) → ℕ → ℕ
depth_in written arena handle =
    suc (greatest (map (depth_within written (λ x. operands_found (value_at arena x)) handle) (operands_found (value_at arena handle))))

-- ---- what is written out

-- the expression is used once, has no name of its own, and nests at most 16 expressions, itself included
pub record IsShort (function : Function) (written : ℕ → Bool) (handle : ℕ) : Type 0 where
  pub used : times_in (uses_in function) handle ≡ 1
  pub unnamed : ¬ Contains (keys function.named_expressions) handle
  pub depth : depth_in written function.expressions handle ≤ 16

-- the expression may be inline, and is in an offset or is short
pub record IsInline (function : Function) (written : ℕ → Bool) (handle : ℕ) : Type 0 where
  pub may : may_be_inline (value_at function.expressions handle) ≡ true
  pub chosen : IsInOffset function.expressions handle ⊎ IsShort function written handle

-- the expression is evaluated where it is used, as the check of uses has it, or it is inline
abbrev pub IsWrittenOut : Function → (written : ℕ → Bool) → ℕ → Type 0
IsWrittenOut function written handle = (chains_in function.expressions handle ≡ true) ⊎ IsInline function written handle

-- These are the expressions that are written out. There is one such set, since the depth of an expression depends only
-- on what is before it.
pub record AreWrittenOut (function : Function) (written : BoundedSet) : Type 0 where
  pub bound : written.bound ≡ length function.expressions
  pub each : (handle : ℕ) → (set.contains written.members handle ≡ true) ↔ IsWrittenOut function (set.contains written.members) handle
