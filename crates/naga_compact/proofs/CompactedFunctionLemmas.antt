-- What is reached in a compacted function: all of its expressions.
use Rattle.std.proofs.Common.{◌≡◌, ◌∙◌, sym, ap, subst, inl, inr, ℕ, zero, suc, ◌<◌, List, [], ◌∷◌, length, true, Some, arith}
use Rattle.std.proofs.lemmas.List.{length-map}
use Rattle.std.proofs.lemmas.Option.{slice_get-map}
use Rattle.std.specs.FinSet.{contains}
use Rattle.std.specs.List.{Contains, slice_get}
use Rattle.std.specs.Map.{keys_of}
use Rattle.std.specs.Option.{option_map}
use Rattle.std.specs.Prelude.{nat_lt}
use Rattle.std.proofs.lemmas.Bool.Decides.{nat_tests}
use Rattle.naga_arena.specs.Arena.{value_at}
use Rattle.naga_arena.specs.declared.span.Span.{Span}
use Rattle.naga_ir.specs.View.{tree_of}
use Rattle.naga_ir.specs.declared.expression.Expression.{Expression}
use Rattle.naga_ir.specs.declared.module.Function.{Function}
use Rattle.naga_sets.specs.HandleSet.{BoundedSet}
use Rattle.naga_valid.proofs.ContainsLemmas.{Contains-map}
use Rattle.naga_compact.specs.Compaction.{IsMember}
use Rattle.naga_compact.specs.Functions.{CompactsFunction, IsNeededIn, initial_values}
use Rattle.naga_compact.specs.Kept.{kept_elements, new_index}
use Rattle.naga_valid.specs.Operands.{operands_of}
use Rattle.naga_compact.specs.Operands.{HasOperand, IsReached, used_by}
use Rattle.naga_compact.specs.Reachability.{from_root, by_step}
use Rattle.naga_compact.specs.Renaming.{Renaming, of_expressions}
use Rattle.naga_compact.specs.derived.Renaming.{rename_expression}
use Rattle.naga_compact.specs.Renaming.Functions.{map_value, map_values}
use Rattle.naga_compact.proofs.KeptElementsLemmas.{kept_elements-found, length-kept_elements, value_at-found}
use Rattle.naga_compact.proofs.RankLemmas.{rank-increases, rank-onto}
use Rattle.naga_compact.proofs.RenameKeysLemmas.{rename_keys-Contains}
use Rattle.naga_compact.proofs.InitialValuesLemmas.{initial_values-renamed}
use Rattle.naga_compact.proofs.RenamedOperandsLemmas.{operands_of-renamed, used_by-renamed}

-- the entry of a value
entry_at : (arena : List (Expression × Span)) (handle : ℕ) (value : Expression) → value_at arena handle ≡ Some value → (span : Span) × (slice_get arena handle ≡ Some (value, span))
entry_at [] zero value found = absurd (cc)
entry_at [] (suc handle) value found = absurd (cc)
entry_at (entry ∷ rest) zero value found = let same : entry.0 ≡ value = cc in (entry.1, ap (λ x. Some (x, entry.1)) same)
entry_at (entry ∷ rest) (suc handle) value found = entry_at rest handle value found

module _ (old new : Function) (kept : BoundedSet) (compacts : CompactsFunction old kept new) where
  abbrev f : ℕ → ℕ
  f = new_index kept

  abbrev r : Renaming
  r = of_expressions f

  length-new : length new.expressions ≡ f (length old.expressions)
  length-new =
      ap length compacts.expressions
      ∙ (length-map (kept_elements kept old.expressions) (map_value (rename_expression r)) ∙ length-kept_elements kept old.expressions)

  -- an expression of the arena that is kept has a new handle in the new arena
  inside_new : (h : ℕ) → IsMember kept h → h < length old.expressions → f h < length new.expressions
  inside_new h member inside =
      omega (arith, length-new, rank-increases (contains kept.members) h (length old.expressions) member inside)

  is_needed : (h : ℕ) → IsNeededIn old h → IsNeededIn new (f h)
  is_needed h (inside, inl name) = (
    inside_new h ((compacts.reached h).1 (from_root (inside, inl name))) inside,
    let below : nat_lt h (length old.expressions) ≡ true = grind (arith, nat_tests) in
        inl (subst (λ entries. Contains (keys_of entries) (f h)) (sym compacts.named_expressions) (rename_keys-Contains (λ handle. nat_lt handle (length old.expressions)) f old.named_expressions.entries h below name)),
  )
  is_needed h (inside, inr (inl init)) = (
    inside_new h ((compacts.reached h).1 (from_root (inside, inr (inl init)))) inside,
    inr (inl (subst (λ inits. Contains inits (f h)) (sym (ap initial_values compacts.local_variables ∙ initial_values-renamed f old.local_variables)) (Contains-map f (initial_values old.local_variables) h init))),
  )
  is_needed h (inside, inr (inr used)) = (
    inside_new h ((compacts.reached h).1 (from_root (inside, inr (inr used)))) inside,
    inr (inr (subst (λ uses. Contains uses (f h)) (sym (ap used_by compacts.body ∙ used_by-renamed r (tree_of old.body))) (Contains-map f (used_by (tree_of old.body)) h used))),
  )

  has_operand : (g h : ℕ) → IsMember kept g → HasOperand old.expressions g h → HasOperand new.expressions (f g) (f h)
  has_operand g h member references =
      let entry = entry_at old.expressions g references.expression references.found in
      let now = kept_elements-found kept old.expressions g (references.expression, entry.0) entry.1 member in record {
        expression = rename_expression r references.expression;
        found = ap (λ arena. value_at arena (f g)) compacts.expressions
            ∙ value_at-found (map_values (rename_expression r) (kept_elements kept old.expressions)) (f g) (Some (rename_expression r references.expression, entry.0))
            (slice_get-map (map_value (rename_expression r)) (kept_elements kept old.expressions) (f g) ∙ ap (option_map (map_value (rename_expression r))) now);
        contained = subst (λ operands. Contains operands (f h)) (sym (operands_of-renamed r references.expression)) (Contains-map f (operands_of references.expression) h references.contained);
      }

  is_reached : (h : ℕ) → IsReached old.expressions (IsNeededIn old) h → IsReached new.expressions (IsNeededIn new) (f h)
  is_reached h (from_root needed) = from_root (is_needed h needed)
  is_reached h (by_step {node = g} way references) = by_step (is_reached g way) (has_operand g h ((compacts.reached g).1 way) references)

  -- each expression of the compacted function is reached
  pub CompactsFunction-reached : (handle : ℕ) → handle < length new.expressions → IsReached new.expressions (IsNeededIn new) handle
  CompactsFunction-reached handle inside =
      let old_handle = rank-onto (contains kept.members) (length old.expressions) handle (omega (arith, length-new)) in
      subst (λ k. IsReached new.expressions (IsNeededIn new) k) old_handle.2 (is_reached old_handle.0 ((compacts.reached old_handle.0).0 old_handle.1))
