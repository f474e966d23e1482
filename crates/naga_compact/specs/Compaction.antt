-- What it means to compact an arena of expressions and the body that refers to them.
use Rattle.std.specs.Prelude.{◌≡◌, ◌↔◌, ◌⊎◌, ◌<◌, ℕ, List, length, true}
use Rattle.std.specs.FinSet.{contains}
use Rattle.std.specs.List.{Contains}
use Rattle.naga_arena.specs.declared.span.Span.{Span}
use Rattle.naga_ir.specs.Tree.{Tree}
use Rattle.naga_ir.specs.declared.expression.Expression.{Expression}
use Rattle.naga_sets.specs.HandleSet.{BoundedSet}
use Rattle.naga_compact.specs.Kept.{kept_elements, new_index}
use Rattle.naga_compact.specs.Operands.{IsReached, used_by}
use Rattle.naga_compact.specs.Renaming.{of_expressions}
use Rattle.naga_compact.specs.derived.Renaming.{rename_expression}
use Rattle.naga_compact.specs.Renaming.Functions.{map_values}
use Rattle.naga_compact.specs.Renaming.Blocks.{rename_tree}

-- the handle is a member of the set
abbrev pub IsMember : BoundedSet → ℕ → Type 0
IsMember s handle = contains s.members handle ≡ true

-- the expression is in the set, or its value is used by the body and it is in the arena
abbrev pub IsNeeded : BoundedSet → List (Expression × Span) → Tree → ℕ → Type 0
IsNeeded needed arena body handle =
    IsMember needed handle ⊎ (Contains (used_by body) handle × (handle < length arena))

-- The expressions that are reached from the needed ones are kept, in order, with their spans. They and the body have
-- the new handles in place of the old ones, and nothing else of them changes.
pub record Compacts (needed : BoundedSet) (arena : List (Expression × Span)) (body : Tree) (kept : BoundedSet) (new_arena : List (Expression × Span)) (new_body : Tree) : Type 0 where
  pub bound : kept.bound ≡ length arena
  pub reached : (handle : ℕ) → IsMember kept handle ↔ IsReached arena (IsNeeded needed arena body) handle
  pub entries : new_arena ≡ map_values (rename_expression (of_expressions (new_index kept))) (kept_elements kept arena)
  pub renamed : new_body ≡ rename_tree (of_expressions (new_index kept)) body
