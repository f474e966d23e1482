-- The function in which accesses are clamped: what is at the front of its arena, what is inserted before an access, and
-- the new handles.
use Rattle.std.specs.Prelude.{◌≡◌, ◌⊎◌, ℕ, Bool, ◌+◌, ◌-◌, List, [], ◌∷◌, ◌++◌, Some, None, flat_map, length, map, nat_lt, take}
use Rattle.std.specs.List.{sum_by, zip}
use Rattle.naga_arena.specs.declared.span.Span.{Span}
use Rattle.naga_kinds.specs.declared.math.MathFunction.TheVariants.{Min}
use Rattle.naga_kinds.specs.declared.operator.BinaryOperator.TheVariants.{Subtract}
use Rattle.naga_kinds.specs.declared.scalar.ScalarKind.TheVariants.{Uint}
use Rattle.naga_ir.specs.View.{tree_of}
use Rattle.naga_ir.specs.declared.expression.Expression.{Expression}
use Rattle.naga_ir.specs.declared.expression.Expression.TheVariants.{Literal, Override, Access, Binary, Math, As, ArrayLength}
use Rattle.naga_ir.specs.declared.literal.Literal.TheVariants.{U32}
use Rattle.naga_ir.specs.declared.module.Function as function
use Rattle.naga_compact.specs.Functions.{rename_keys}
use Rattle.naga_compact.specs.Renaming.{Renaming, rename_range, unchanged}
use Rattle.naga_compact.specs.Renaming.Blocks.{rename_tree}
use Rattle.naga_compact.specs.Renaming.Declarations.{rename_local_variable}
use Rattle.naga_compact.specs.Renaming.Functions.{map_values}
use Rattle.naga_compact.specs.derived.Renaming.{rename_expression}
use Rattle.naga_bounds.specs.Changes.{AreChanges}
use Rattle.naga_bounds.specs.Fits.{EachFits}
use Rattle.naga_bounds.specs.Reach.{Typed}
use Rattle.naga_bounds.specs.declared.change.Change.{Change}
use Rattle.naga_bounds.specs.declared.change.Change.TheVariants.{Stays, Clamped}
use Rattle.naga_bounds.specs.declared.change.Clamp.{Clamp}
use Rattle.naga_bounds.specs.declared.change.ClampedIndex.{ClampedIndex}
use Rattle.naga_bounds.specs.declared.change.ClampedIndex.TheVariants.{Constant, Unsigned, Converted}
use Rattle.naga_bounds.specs.declared.length.Length.{Length}
use Rattle.naga_bounds.specs.declared.length.Length.TheVariants.{Fixed, Overridden, Counted}

-- ---- what needs no `Emit`, at the front of the arena

abbrev pub literal : ℕ → Expression
literal number = Literal (U32 number)

abbrev pub front_of_index : ClampedIndex → List Expression
front_of_index (Constant number) = literal number ∷ []
front_of_index _ = []

-- the last index, or the size and the 1 that is subtracted from it
abbrev pub front_of_length : Length → List Expression
front_of_length (Fixed count) = literal (count - 1) ∷ []
front_of_length (Overridden handle) = literal 1 ∷ Override handle ∷ []
front_of_length Counted = literal 1 ∷ []

abbrev pub front_of : Change → List Expression
front_of Stays = []
front_of (Clamped clamp) = front_of_index clamp.index ++ front_of_length clamp.length

abbrev pub front_count : Change → ℕ
front_count change = length (front_of change)

abbrev pub with_span : Span → List Expression → List (Expression × Span)
with_span span = map (λ expression. (expression, span))

-- what is at the front for all entries, each with the span of its entry
abbrev pub fronts : List (Change × (Expression × Span)) → List (Expression × Span)
fronts = flat_map (λ entry. with_span entry.1.1 (front_of entry.0))

-- ---- what is inserted before an access, in the `Emit` that covers it

-- `r` has the new handles. What a clamp has at the front begins at `front`, and what is inserted for it at `here`.
module _ (r : Renaming) where
  -- the last index, if it is not at the front; what the length has there begins at `front`
  abbrev pub last_index : Length → (base front here : ℕ) → List Expression
  last_index (Fixed count) base front here = []
  last_index (Overridden handle) base front here = Binary Subtract (front + 1) front ∷ []
  last_index Counted base front here = ArrayLength (r.expressions base) ∷ Binary Subtract here front ∷ []

  abbrev pub conversion : ClampedIndex → List Expression
  conversion (Converted index) = As (r.expressions index) Uint (Some 4) ∷ []
  conversion _ = []

  -- the index of type `u32`
  abbrev pub operand : ClampedIndex → (front here : ℕ) → ℕ
  operand (Constant number) front here = front
  operand (Unsigned index) front here = r.expressions index
  operand (Converted index) front here = here

  -- where the last index is
  abbrev pub limit : Length → (front here : ℕ) → ℕ
  limit (Fixed count) front here = front
  limit (Overridden handle) front here = here
  limit Counted front here = here + 1

  -- what is inserted before the minimum
  abbrev pub operands : Clamp → (front here : ℕ) → List Expression
  operands clamp front here =
      last_index clamp.length clamp.base (front + length (front_of_index clamp.index)) here ++ conversion clamp.index

  abbrev pub minimum : Clamp → (front here : ℕ) → Expression
  minimum clamp front here =
      let limit_front = front + length (front_of_index clamp.index) in
      Math Min (operand clamp.index front (here + length (last_index clamp.length clamp.base limit_front here)))
      (Some (limit clamp.length limit_front here)) None None

  abbrev pub inserted : Change → (front here : ℕ) → List Expression
  inserted Stays front here = []
  inserted (Clamped clamp) front here = operands clamp front here ++ minimum clamp front here ∷ []

  -- what becomes of the expression itself
  abbrev pub changed : Change → Expression → (front here : ℕ) → Expression
  changed Stays expression front here = rename_expression r expression
  changed (Clamped clamp) expression front here =
      Access (r.expressions clamp.base) (here + length (operands clamp front here))

  -- ---- the new arena

  -- what is in the place of one entry; what is inserted has its span
  abbrev pub group : Change × (Expression × Span) → (front here : ℕ) → List (Expression × Span)
  group entry front here =
      with_span entry.1.1 (inserted entry.0 front here ++ changed entry.0 entry.1.0 front here ∷ [])

  abbrev pub groups : List (Change × (Expression × Span)) → (front here : ℕ) → List (Expression × Span)
  groups [] front here = []
  groups (entry ∷ rest) front here =
      group entry front here ++ groups rest (front + front_count entry.0) (here + length (group entry front here))

-- ---- new handles

-- how many entries are in the place of one
abbrev pub width : Change → ℕ
width change = length (inserted unchanged change 0 0) + 1

-- how many entries are at the front
abbrev pub front_len : List Change → ℕ
front_len = sum_by front_count

-- Where what is in the place of an expression begins. Past the last expression, this is the length of the new arena.
abbrev pub start_of : List Change → ℕ → ℕ
start_of changes handle = front_len changes + sum_by width (take handle changes)

-- the new handle of an expression: what is inserted comes before it
abbrev pub new_of : List Change → ℕ → ℕ
new_of changes handle = start_of changes (handle + 1) - 1

-- how many entries the new arena has
abbrev pub new_len : List Change → ℕ
new_len changes = front_len changes + sum_by width changes

-- the new handles; an `Emit` covers what is inserted before the expressions that it covered
abbrev pub moving : List Change → Renaming
moving changes = record unchanged { expressions = new_of changes; ranges = rename_range (start_of changes) }

-- ---- the new function

-- `new` is the function `old` with these changes of its expressions. Names of handles that are not in the arena are removed.
pub record IsChanged (changes : List Change) (old new : function.Function) : Type 0 where
  pub expressions : new.expressions ≡ fronts (zip changes old.expressions) ++ groups (moving changes) (zip changes old.expressions) 0 (front_len changes)
  pub named_expressions : new.named_expressions.entries ≡ rename_keys (λ handle. nat_lt handle (length old.expressions)) (new_of changes) old.named_expressions.entries
  pub local_variables : new.local_variables ≡ map_values (rename_local_variable (moving changes)) old.local_variables
  pub body : tree_of new.body ≡ rename_tree (moving changes) (tree_of old.body)
  pub name : new.name ≡ old.name
  pub arguments : new.arguments ≡ old.arguments
  pub result : new.result ≡ old.result
  pub diagnostic_filter_leaf : new.diagnostic_filter_leaf ≡ old.diagnostic_filter_leaf

-- `counts` are the overrides of type `u32`, and `code` has the expressions of `old` with their types.
module _ (counts : ℕ → Bool) (code : Typed) where
  -- some access of `old` does not fit, and `new` is `old` with each of those clamped
  pub record IsClamped (old new : function.Function) : Type 0 where
    pub some_misfits : ¬ EachFits code
    pub changes : List Change
    pub planned : AreChanges counts code changes
    pub changed_to : IsChanged changes old new

  -- a function whose accesses fit stays as it is, and in any other, each access that does not fit is clamped
  abbrev pub Restricts : (old new : function.Function) → Type 0
  Restricts old new = (EachFits code × (new ≡ old)) ⊎ IsClamped old new
