-- Compacting a function keeps that each value is evaluated before it is used.
use Rattle.std.proofs.Common.{◌≡◌, ◌∙◌, sym, ap, subst, inl, inr, refl, ℕ, ◌<◌, Bool, true, false, [], ◌∷◌, length, map, Some, None, arith}
use Rattle.std.proofs.lemmas.List.{length-map}
use Rattle.std.proofs.lemmas.List.Elements.{All-cons, All-contains, All-contains_itself, All-nil, All-weaker}
use Rattle.std.proofs.lemmas.Option.{slice_get-map, slice_get_cases, slice_get_past}
use Rattle.std.specs.FinSet.{contains}
use Rattle.std.specs.List.{All, Contains}
use Rattle.std.specs.Option.{option_map}
use Rattle.std.specs.Prelude.{if◌then◌else◌}
use Rattle.naga_arena.specs.Arena.{value_at}
use Rattle.naga_ir.specs.View.{tree_of}
use Rattle.naga_ir.specs.declared.expression.Expression.{Expression}
use Rattle.naga_ir.specs.declared.module.Function.{Function}
use Rattle.naga_sets.specs.HandleSet.{BoundedSet}
use Rattle.naga_valid.specs.Operands.{operands_of}
use Rattle.naga_flow.specs.Readings.{expressions_by}
use Rattle.naga_flow.specs.Scopes.{EvaluatedOnce}
use Rattle.naga_flow.specs.Uses.{UsesKnown, expressions_in}
use Rattle.naga_compact.specs.Functions.{CompactsFunction}
use Rattle.naga_compact.specs.Kept.{kept_elements, new_index}
use Rattle.naga_compact.specs.Operands.{used_by}
use Rattle.naga_compact.specs.Reachability.{by_step, from_root}
use Rattle.naga_compact.specs.Renaming.{Renaming, of_expressions}
use Rattle.naga_compact.specs.derived.Renaming.{rename_expression}
use Rattle.naga_compact.specs.Renaming.Functions.{map_value, map_values}
use Rattle.naga_compact.proofs.KeptElementsLemmas.{kept_elements-found, length-kept_elements, value_at-found}
use Rattle.naga_compact.proofs.RangeKeptLemmas.{range_kept}
use Rattle.naga_compact.proofs.RankLemmas.{rank-grows, rank-increases, rank-injective}
use Rattle.naga_meaning.specs.Renames.{AreKept, Renames}
use Rattle.naga_meaning.proofs.Uses.ReadsLemmas.{Renames-of}
use Rattle.naga_meaning.proofs.Uses.RenamesLemmas.{rename_tree-once, rename_tree-uses}

module _ (old new : Function) (kept : BoundedSet) (compacts : CompactsFunction old kept new) where
  abbrev f : ℕ → ℕ
  f = new_index kept

  abbrev r : Renaming
  r = of_expressions f

  abbrev IsKept : ℕ → Type 0
  IsKept handle = contains kept.members handle ≡ true

  length-new : length (map_values (rename_expression r) (kept_elements kept old.expressions)) ≡ f (length old.expressions)
  length-new =
      length-map (kept_elements kept old.expressions) (map_value (rename_expression r)) ∙ length-kept_elements kept old.expressions

  -- an expression that is kept is at its new index, with its handles renamed
  pub expression-found : (handle : ℕ) → IsKept handle → value_at new.expressions (f handle) ≡ option_map (rename_expression r) (value_at old.expressions handle)
  expression-found handle member =
      ap (λ arena. value_at arena (f handle)) compacts.expressions
      ∙ elim (slice_get_cases old.expressions handle).1 as (λ _. value_at (map_values (rename_expression r) (kept_elements kept old.expressions)) (f handle) ≡ option_map (rename_expression r) (value_at old.expressions handle)) [
        | inl (entry, inside, found, same) ↦
            value_at-found (map_values (rename_expression r) (kept_elements kept old.expressions)) (f handle) (Some (map_value (rename_expression r) entry))
            (slice_get-map (map_value (rename_expression r)) (kept_elements kept old.expressions) (f handle)
            ∙ ap (option_map (map_value (rename_expression r))) (kept_elements-found kept old.expressions handle entry found member))
            ∙ sym (ap (option_map (rename_expression r)) (value_at-found old.expressions handle (Some entry) found))
        | inr (past, none) ↦
            value_at-found (map_values (rename_expression r) (kept_elements kept old.expressions)) (f handle) None
            (slice_get_past (map_values (rename_expression r) (kept_elements kept old.expressions)) (f handle)
            (omega (arith, length-new, rank-grows (contains kept.members) (length old.expressions) handle past)))
            ∙ sym (ap (option_map (rename_expression r)) (value_at-found old.expressions handle None none))
      ]

  -- the operands of an expression that is kept are kept
  pub operands-kept : (handle : ℕ) (expression : Expression) → IsKept handle → value_at old.expressions handle ≡ Some expression → AreKept (contains kept.members) (operands_of expression)
  operands-kept handle expression member found =
      All-weaker (Contains (operands_of expression)) IsKept
      (λ operand inside. (compacts.reached operand).1 (by_step {node = handle} ((compacts.reached handle).0 member) (record { expression = expression; found = found; contained = inside })))
      (operands_of expression) (All-contains_itself (operands_of expression))

  -- the expressions of the arena that the body uses are kept
  pub body-kept : All (λ handle. handle < length old.expressions) (used_by (tree_of old.body)) → AreKept (contains kept.members) (used_by (tree_of old.body))
  body-kept within =
      All-weaker (Contains (used_by (tree_of old.body))) IsKept
      (λ handle inside. (compacts.reached handle).1 (from_root (All-contains (λ handle. handle < length old.expressions) (used_by (tree_of old.body)) handle within inside, inr (inr inside))))
      (used_by (tree_of old.body)) (All-contains_itself (used_by (tree_of old.body)))

  pub CompactsFunction-renames : Renames (contains kept.members) r (expressions_in old.expressions) (expressions_in new.expressions)
  CompactsFunction-renames =
      Renames-of (contains kept.members) r old.expressions new.expressions expression-found operands-kept
      (λ x y member before. rank-increases (contains kept.members) x y member before)
      (λ x y after. rank-grows (contains kept.members) y x after)
      (λ x y member member' same. rank-injective (contains kept.members) x y member member' same)
      (range_kept (contains kept.members))

  pub CompactsFunction-uses : All (λ handle. handle < length old.expressions) (used_by (tree_of old.body)) →
      UsesKnown (expressions_in old.expressions) [] (tree_of old.body) → UsesKnown (expressions_in new.expressions) [] (tree_of new.body)
  CompactsFunction-uses within h =
      subst (UsesKnown (expressions_in new.expressions) []) (sym compacts.body)
      (rename_tree-uses (contains kept.members) r (expressions_in old.expressions) (expressions_in new.expressions) CompactsFunction-renames [] (tree_of old.body) (body-kept within) h)

  pub CompactsFunction-once : All (λ handle. handle < length old.expressions) (used_by (tree_of old.body)) → EvaluatedOnce [] (tree_of old.body) → EvaluatedOnce [] (tree_of new.body)
  CompactsFunction-once within h =
      subst (EvaluatedOnce []) (sym compacts.body)
      (rename_tree-once (contains kept.members) r (expressions_in old.expressions) (expressions_in new.expressions) CompactsFunction-renames [] (tree_of old.body) (body-kept within) h)

  -- the same in a reading in which these expressions are evaluated where they are used
  module _ (at_use at_use' : ℕ → Bool) (alike : (x : ℕ) → IsKept x → at_use' (f x) ≡ at_use x) where
    CompactsFunction-renames_by : Renames (contains kept.members) r (expressions_by at_use old.expressions) (expressions_by at_use' new.expressions)
    CompactsFunction-renames_by =
        let so = CompactsFunction-renames in record {
          distinct = so.distinct;
          ranges = so.ranges;
          evaluation = so.evaluation;
          operands = so.operands;
          operands_kept = so.operands_kept;
          reads = λ x member. ap (λ t. if t then [] else f x ∷ []) (alike x member) ∙ reads (at_use x) x;
          reads_kept = λ x member. reads_kept (at_use x) x member;
        }
      where
        reads : (t : Bool) (x : ℕ) → (if t then [] else f x ∷ []) ≡ map f (if t then [] else x ∷ [])
        reads true x = refl
        reads false x = refl

        reads_kept : (t : Bool) (x : ℕ) → IsKept x → AreKept (contains kept.members) (if t then [] else x ∷ [])
        reads_kept true x member = All-nil IsKept
        reads_kept false x member = All-cons IsKept x [] member (All-nil IsKept)

    pub CompactsFunction-uses_by : All (λ handle. handle < length old.expressions) (used_by (tree_of old.body)) →
        UsesKnown (expressions_by at_use old.expressions) [] (tree_of old.body) → UsesKnown (expressions_by at_use' new.expressions) [] (tree_of new.body)
    CompactsFunction-uses_by within h =
        subst (UsesKnown (expressions_by at_use' new.expressions) []) (sym compacts.body)
        (rename_tree-uses (contains kept.members) r (expressions_by at_use old.expressions) (expressions_by at_use' new.expressions) CompactsFunction-renames_by [] (tree_of old.body) (body-kept within) h)
