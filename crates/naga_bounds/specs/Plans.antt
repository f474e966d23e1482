-- What the plan of the changes of a function holds, and the arena that is built by it.
use Rattle.std.specs.Prelude.{◌≡◌, ◌<◌, ◌≤◌, ⊤, ℕ, ◌+◌, List, length, slice_index}
use Rattle.naga_arena.specs.Limits.{max_len}
use Rattle.naga_arena.specs.declared.span.Span.{Span}
use Rattle.naga_ir.specs.declared.expression.Expression.{Expression}
use Rattle.naga_bounds.specs.Restricted.{new_len, start_of}
use Rattle.naga_bounds.specs.declared.change.Change.{Change}
use Rattle.naga_bounds.specs.declared.change.Change.TheVariants.{Stays, Clamped}
use Rattle.naga_bounds.specs.declared.length.Length.{Length}
use Rattle.naga_bounds.specs.declared.length.Length.TheVariants.{Fixed}
use Rattle.naga_bounds.specs.declared.restrict_error.Obstacle.{Obstacle}
use Rattle.naga_bounds.specs.declared.restrict_error.Obstacle.TheVariants as obstacle

-- for each expression, where what is in its place begins, and then the length of the new arena
pub record AreStarts (changes : List Change) (starts : List ℕ) : Type 0 where
  pub all : length starts ≡ length changes + 1
  pub each : (index : ℕ) → index ≤ length changes → slice_index starts index ≡ start_of changes index

-- the new arena would be too long, or an allocation failed
abbrev pub HasNoRoom : List Change → Obstacle → Type 0
HasNoRoom changes obstacle.Memory = ⊤
HasNoRoom changes obstacle.Full = max_len < new_len changes
HasNoRoom changes _ = ⊥

-- a fixed length is a number of 32 bits
abbrev pub IsShortLength : Length → Type 0
IsShortLength (Fixed count) = count ≤ max_len
IsShortLength long = ⊤

abbrev pub IsShort : Change → Type 0
IsShort Stays = ⊤
IsShort (Clamped clamp) = IsShortLength clamp.length

-- an arena of which these entries are built, in memory for this number of them
pub record Built : Type 0 where
  pub entries : List (Expression × Span)
  pub capacity : ℕ
