-- What decides which expressions are written out, and the depths by which they are chosen one after another.
use Rattle.std.specs.Prelude.{◌≡◌, ◌↔◌, ◌<◌, ◌≤◌, ℕ, zero, suc, Bool, true, false, not, ◌&&◌, ◌||◌, List, length, map, nat_lt, slice_index_or, if◌then◌else◌}
use Rattle.std.specs.FinSet as set
use Rattle.std.specs.List.{Contains}
use Rattle.indexmap.specs.IndexMap.{keys}
use Rattle.naga_arena.specs.Arena.{value_at}
use Rattle.naga_ir.specs.declared.module.Function.{Function}
use Rattle.naga_sets.specs.HandleSet.{BoundedSet}
use Rattle.naga_flow.specs.Uses.{operands_found}
use Rattle.naga_meaning.specs.Readings.{chains_in}
use Rattle.naga_wgsl.specs.Counts.{AreUsesIn, is_used_once}
use Rattle.naga_wgsl.specs.Pure.{may_be_inline}
use Rattle.naga_wgsl.specs.WrittenOut.{IsInOffset, greatest}
use Rattle.naga_wgsl.specs.declared.choices.Choices.{Choices}

-- these decide about the expressions of a function
pub record AreChoicesIn (function : Function) (choices : Choices) : Type 0 where
  pub expressions : choices.expressions.now ≡ function.expressions
  pub chains : (handle : ℕ) → set.contains choices.chains.members handle ≡ chains_in function.expressions handle
  pub in_offsets : (handle : ℕ) → (set.contains choices.in_offsets.members handle ≡ true) ↔ IsInOffset function.expressions handle
  pub named : (handle : ℕ) → handle < length function.expressions →
      (set.contains choices.named.members handle ≡ true) ↔ Contains (keys function.named_expressions) handle
  pub uses : AreUsesIn function choices.uses

-- the expression is written out however many expressions it nests
abbrev pub must_be_written_out : Choices → ℕ → Bool
must_be_written_out choices handle =
    set.contains choices.chains.members handle
    || (set.contains choices.in_offsets.members handle && may_be_inline (value_at choices.expressions.now handle))

-- the expression is written out if it nests few enough expressions
abbrev pub may_be_written_out : Choices → ℕ → Bool
may_be_written_out choices handle =
    may_be_inline (value_at choices.expressions.now handle) && is_used_once choices.uses handle
    && not (set.contains choices.named.members handle)

-- the depth, or 0 if the expression is named
abbrev pub depth_if : (must may : Bool) → (depth : ℕ) → ℕ
depth_if must may depth = if must || (nat_lt depth 17 && may) then depth else 0

-- the depth of each expression, by those of its operands, in at most this many steps
abbrev pub depth_by : (must may : ℕ → Bool) (operands : ℕ → List ℕ) (steps : ℕ) → ℕ → ℕ
depth_by must may operands zero handle = 0
depth_by must may operands (suc steps) handle =
    depth_if (must handle) (may handle) (suc (greatest (map (depth_by must may operands steps) (operands handle))))

-- the depth of an expression
abbrev pub depth_at : Choices → ℕ → ℕ
depth_at choices handle =
    depth_by (must_be_written_out choices) (may_be_written_out choices)
    (λ x. operands_found (value_at choices.expressions.now x)) (suc handle) handle

-- these are the depths of the first expressions
pub record AreDepths (choices : Choices) (depths : List ℕ) : Type 0 where
  pub each : (handle : ℕ) → handle < length depths → slice_index_or depths handle 0 ≡ depth_at choices handle

-- the set has, of the first handles, those that pass the test, and no others
pub record HasFirst (test : ℕ → Bool) (count : ℕ) (found : BoundedSet) : Type 0 where
  pub first : (handle : ℕ) → handle < count → set.contains found.members handle ≡ test handle
  pub no_others : (handle : ℕ) → count ≤ handle → set.contains found.members handle ≡ false

-- of the first expressions, the set has those that are written out
pub record AreChosen (choices : Choices) (count : ℕ) (written : BoundedSet) : Type 0 where
  pub bound : written.bound ≡ length choices.expressions.now
  pub chosen : HasFirst (λ handle. nat_lt 0 (depth_at choices handle)) count written
