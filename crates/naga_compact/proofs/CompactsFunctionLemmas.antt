-- The parts of the compaction of a function.
use Rattle.std.proofs.Common.{◌≡◌, ◌∙◌, sym, subst, inl, inr, ℕ, ◌<◌, List, length, true, false, arith, true≢false}
use Rattle.std.proofs.lemmas.Bool.{cases_lt, false_from_ne_true}
use Rattle.std.proofs.lemmas.Bool.Decides.{nat_tests}
use Rattle.std.specs.FinSet.{contains, contains-empty}
use Rattle.std.specs.List.{Contains}
use Rattle.std.specs.Ordering.{nat_cmp}
use Rattle.std.specs.Prelude.{◌↔◌, nat_lt}
use Rattle.indexmap.specs.IndexMap.{keys}
use Rattle.naga_arena.specs.declared.span.Span.{Span}
use Rattle.naga_ir.specs.View.{tree_of}
use Rattle.naga_ir.specs.declared.expression.Expression.{Expression}
use Rattle.naga_ir.specs.declared.module.Function.{Function}
use Rattle.naga_sets.specs.HandleSet.{BoundedSet, none_below}
use Rattle.naga_compact.specs.Compaction.{Compacts, IsMember, IsNeeded}
use Rattle.naga_compact.specs.Functions.{CompactsFunction, IsNeededIn, initial_values, rename_keys}
use Rattle.naga_compact.specs.Kept.{new_index}
use Rattle.naga_compact.specs.Marks.{puts}
use Rattle.naga_compact.specs.Operands.{IsReached, OperandsPrecede}
use Rattle.naga_compact.specs.Reachability.{from_root, by_step}
use Rattle.naga_compact.specs.Renaming.{of_expressions}
use Rattle.naga_compact.specs.Renaming.Declarations.{rename_local_variable}
use Rattle.naga_compact.specs.Renaming.Functions.{map_values}
use Rattle.naga_compact.proofs.IsReachedLemmas.{IsReached-more, operand_precedes}
use Rattle.naga_compact.proofs.MarkLemmas.{puts-bound, puts-has, puts-new, puts-old}
use Rattle.naga_compact.proofs.RenameKeysLemmas.{rename_keys-agree}

-- the set of the expressions that have a name or are the initial value of a variable
abbrev pub named_or_initial : Function → BoundedSet
named_or_initial function =
    puts (puts (none_below (length function.expressions)) (keys function.named_expressions)) (initial_values function.local_variables)

pub named_or_initial-bound : (function : Function) → (named_or_initial function).bound ≡ length function.expressions
named_or_initial-bound function =
    puts-bound (puts (none_below (length function.expressions)) (keys function.named_expressions)) (initial_values function.local_variables)
    ∙ puts-bound (none_below (length function.expressions)) (keys function.named_expressions)

-- the needed expressions are those that are needed by a function
IsNeeded-IsNeededIn : (old : Function) (h : ℕ) → IsNeeded (named_or_initial old) old.expressions (tree_of old.body) h → IsNeededIn old h
IsNeeded-IsNeededIn old h (inr used) = (used.1, inr (inr used.0))
IsNeeded-IsNeededIn old h (inl member) =
    let none = none_below (length old.expressions) in
    let named = puts none (keys old.named_expressions) in
    elim (puts-new named (initial_values old.local_variables) h member) [
      | inl before ↦ elim (puts-new none (keys old.named_expressions) h before) [
        | inl never ↦ absurd (true≢false (sym never ∙ contains-empty nat_cmp h))
        | inr name ↦ (name.1, inl name.0)
      ]
      | inr init ↦ (omega (arith, init.1, puts-bound none (keys old.named_expressions)), inr (inl init.0))
    ]

IsNeededIn-IsNeeded : (old : Function) (h : ℕ) → IsNeededIn old h → IsNeeded (named_or_initial old) old.expressions (tree_of old.body) h
IsNeededIn-IsNeeded old h (inside, inl name) =
    let none = none_below (length old.expressions) in
    let named = puts none (keys old.named_expressions) in
    inl (puts-old named (initial_values old.local_variables) h (puts-has none (keys old.named_expressions) h inside name))
IsNeededIn-IsNeeded old h (inside, inr (inl init)) =
    let none = none_below (length old.expressions) in
    let named = puts none (keys old.named_expressions) in
    inl (puts-has named (initial_values old.local_variables) h (omega (arith, inside, puts-bound none (keys old.named_expressions))) init)
IsNeededIn-IsNeeded old h (inside, inr (inr used)) = inr (used, inside)

-- what is reached from expressions of the arena is in the arena
IsReached-inside : (arena : List (Expression × Span)) (IsRoot : ℕ → Type 0) → OperandsPrecede arena → ((h : ℕ) → IsRoot h → h < length arena) → (h : ℕ) → IsReached arena IsRoot h → h < length arena
IsReached-inside arena IsRoot precede inside h (from_root root) = inside h root
IsReached-inside arena IsRoot precede inside h (by_step {node = g} way references) =
    omega (arith, operand_precedes arena g h precede references, IsReached-inside arena IsRoot precede inside g way)

module _ (old : Function) (kept : BoundedSet) (reached : (handle : ℕ) → IsMember kept handle ↔ IsReached old.expressions (IsNeededIn old) handle) where
  -- a name of an expression of the arena is kept
  pub named_is_kept : OperandsPrecede old.expressions → (h : ℕ) → Contains (keys old.named_expressions) h → contains kept.members h ≡ nat_lt h (length old.expressions)
  named_is_kept precede h name = elim (cases_lt h (length old.expressions)) [
    | inl inside ↦
        let yes' : nat_lt h (length old.expressions) ≡ true = grind (arith, nat_tests) in
        (reached h).1 (from_root (inside, inl name)) ∙ sym yes'
    | inr outside ↦
        let no' : nat_lt h (length old.expressions) ≡ false = grind (arith, nat_tests) in
        false_from_ne_true (contains kept.members h) (λ member. absurd (omega (arith, IsReached-inside old.expressions (IsNeededIn old) precede (λ k is. is.0) h ((reached h).0 member))))
        ∙ sym no'
  ]

pub CompactsFunction-from : (old new : Function) (needed kept : BoundedSet) → OperandsPrecede old.expressions → needed ≡ named_or_initial old →
    Compacts needed old.expressions (tree_of old.body) kept new.expressions (tree_of new.body) →
    new.named_expressions.entries ≡ rename_keys (contains kept.members) (new_index kept) old.named_expressions.entries →
    new.local_variables ≡ map_values (rename_local_variable (of_expressions (new_index kept))) old.local_variables →
    new.name ≡ old.name → new.arguments ≡ old.arguments → new.result ≡ old.result → new.diagnostic_filter_leaf ≡ old.diagnostic_filter_leaf →
    CompactsFunction old kept new
CompactsFunction-from old new needed kept precede roots so names variables name arguments result leaf =
    let reached : (h : ℕ) → IsMember kept h ↔ IsReached old.expressions (IsNeededIn old) h =
    λ h. (
      λ member. IsReached-more old.expressions (IsNeeded needed old.expressions (tree_of old.body)) (IsNeededIn old) (λ k is. IsNeeded-IsNeededIn old k (subst (λ s. IsNeeded s old.expressions (tree_of old.body) k) roots is)) h ((so.reached h).0 member),
      λ way. (so.reached h).1 (IsReached-more old.expressions (IsNeededIn old) (IsNeeded needed old.expressions (tree_of old.body)) (λ k is. subst (λ s. IsNeeded s old.expressions (tree_of old.body) k) (sym roots) (IsNeededIn-IsNeeded old k is)) h way),
    )
    in record {
      bound = so.bound;
      reached = reached;
      expressions = so.entries;
      named_expressions = names ∙ rename_keys-agree (contains kept.members) (λ handle. nat_lt handle (length old.expressions)) (new_index kept) old.named_expressions.entries (named_is_kept old kept reached precede);
      local_variables = variables;
      body = so.renamed;
      name = name;
      arguments = arguments;
      result = result;
      diagnostic_filter_leaf = leaf;
    }
