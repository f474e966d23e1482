-- What it means to compact a function.
--
-- Needed are the expressions that have a name, that are the initial value of a local variable, or that the body uses.
use Rattle.std.specs.Prelude.{◌≡◌, ◌↔◌, ◌⊎◌, ◌<◌, ℕ, Bool, List, filter, length, map, nat_lt}
use Rattle.std.specs.List.{Contains, filter_map}
use Rattle.indexmap.specs.IndexMap.{keys}
use Rattle.naga_arena.specs.declared.span.Span.{Span}
use Rattle.naga_ir.specs.View.{tree_of}
use Rattle.naga_ir.specs.declared.module.Function.{Function}
use Rattle.naga_ir.specs.declared.module.LocalVariable.{LocalVariable}
use Rattle.naga_sets.specs.HandleSet.{BoundedSet}
use Rattle.naga_compact.specs.Compaction.{IsMember}
use Rattle.naga_compact.specs.Kept.{kept_elements, new_index}
use Rattle.naga_compact.specs.Operands.{IsReached, used_by}
use Rattle.naga_compact.specs.Renaming.{of_expressions}
use Rattle.naga_compact.specs.Renaming.Declarations.{rename_local_variable}
use Rattle.naga_compact.specs.derived.Renaming.{rename_expression}
use Rattle.naga_compact.specs.Renaming.Functions.{map_values}
use Rattle.naga_compact.specs.Renaming.Blocks.{rename_tree}

-- the initial values of the variables that have one
abbrev pub initial_values : List (LocalVariable × Span) → List ℕ
initial_values = filter_map (λ variable. variable.0.init)

-- the entries whose keys pass the test, in order, with their keys renamed
abbrev pub rename_keys : {K X : Type 0} → (K → Bool) → (K → K) → List (K × X) → List (K × X)
rename_keys test f entries = map (λ entry. (f entry.0, entry.1)) (filter (λ entry. test entry.0) entries)

-- the expression is in the function's arena, and it has a name, is the initial value of a variable, or is used by the
-- body
abbrev pub IsNeededIn : Function → ℕ → Type 0
IsNeededIn function handle =
    (handle < length function.expressions)
    × (Contains (keys function.named_expressions) handle
    ⊎ Contains (initial_values function.local_variables) handle
    ⊎ Contains (used_by (tree_of function.body)) handle)

-- The expressions that are reached from the needed ones are kept, in order, with their spans. They, the names of
-- expressions, the initial values of variables, and the body have the new handles in place of the old ones, and nothing
-- else of the function changes. Names of handles that are not in the arena are removed.
pub record CompactsFunction (old : Function) (kept : BoundedSet) (new : Function) : Type 0 where
  pub bound : kept.bound ≡ length old.expressions
  pub reached : (handle : ℕ) → IsMember kept handle ↔ IsReached old.expressions (IsNeededIn old) handle
  pub expressions : new.expressions ≡ map_values (rename_expression (of_expressions (new_index kept))) (kept_elements kept old.expressions)
  pub named_expressions : new.named_expressions.entries ≡ rename_keys (λ handle. nat_lt handle (length old.expressions)) (new_index kept) old.named_expressions.entries
  pub local_variables : new.local_variables ≡ map_values (rename_local_variable (of_expressions (new_index kept))) old.local_variables
  pub body : tree_of new.body ≡ rename_tree (of_expressions (new_index kept)) (tree_of old.body)
  pub name : new.name ≡ old.name
  pub arguments : new.arguments ≡ old.arguments
  pub result : new.result ≡ old.result
  pub diagnostic_filter_leaf : new.diagnostic_filter_leaf ≡ old.diagnostic_filter_leaf
