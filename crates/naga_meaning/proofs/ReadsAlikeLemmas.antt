-- Expressions that are kept are read in the same way.
use Rattle.std.proofs.Common.{◌≡◌, ◌∙◌, ap, subst, refl, ℕ, zero, suc, ◌<◌, Bool, true, false, List, [], ◌∷◌, Option, Some, None, arith}
use Rattle.std.specs.FinSet.{contains}
use Rattle.std.specs.Prelude.{◌||◌, if◌then◌else◌, option_and_then, option_map}
use Rattle.naga_arena.specs.Arena.{value_at}
use Rattle.naga_arena.specs.declared.span.Span.{Span}
use Rattle.naga_ir.specs.Expression.{needs_pre_emit}
use Rattle.naga_ir.specs.declared.expression.Expression.{Expression}
use Rattle.naga_ir.specs.declared.expression.Expression.TheVariants.{Literal, AccessIndex}
use Rattle.naga_ir.specs.declared.module.Function.{Function}
use Rattle.naga_sets.specs.HandleSet.{BoundedSet}
use Rattle.naga_valid.specs.Operands.{operands_of}
use Rattle.naga_flow.specs.Places.{ready_in}
use Rattle.naga_flow.specs.Uses.{operands_found}
use Rattle.naga_compact.specs.Functions.{CompactsFunction}
use Rattle.naga_compact.specs.Kept.{new_index}
use Rattle.naga_compact.specs.Operands.{OperandsPrecede}
use Rattle.naga_compact.specs.Renaming.{Renaming, of_expressions}
use Rattle.naga_compact.specs.derived.Renaming.{rename_expression}
use Rattle.naga_compact.specs.Renaming.Functions.{IsRenamedFunction, map_values}
use Rattle.naga_compact.specs.Renaming.Renumbering.{renaming_of}
use Rattle.naga_compact.specs.declared.module.renumbering.ModuleRenumbering.{ModuleRenumbering}
use Rattle.naga_compact.proofs.RankLemmas.{rank-grows, rank-increases}
use Rattle.naga_meaning.specs.Renames.{AreKept}
use Rattle.naga_meaning.proofs.Uses.CompactedUsesLemmas.{expression-found, operands-kept}
use Rattle.naga_meaning.proofs.Uses.ReadsLemmas.{place-same}
use Rattle.naga_flow.specs.Readings.{chosen_base, constant_base_of, constant_chains_in}
use Rattle.naga_flow.proofs.ReachesReadyLemmas.{reaches_ready-moved}
use Rattle.naga_meaning.specs.Readings.{ReadsAlike, chains_in}
use Rattle.naga_meaning.specs.Renaming.{Each}
use Rattle.naga_meaning.proofs.EachLemmas.{each-of_all, operands-before}

-- ---- access chains

pub chains_in-compacted : (old new : Function) (kept : BoundedSet) → CompactsFunction old kept new →
    ReadsAlike (contains kept.members) (new_index kept) (chains_in old.expressions) (chains_in new.expressions)
chains_in-compacted old new kept compacts x so =
    place-same (contains kept.members) (of_expressions (new_index kept)) old.expressions new.expressions
    (expression-found old new kept compacts) (operands-kept old new kept compacts)
    (λ x y member before. rank-increases (contains kept.members) x y member before) (λ x y behind. rank-grows (contains kept.members) y x behind) x so

-- ---- accesses by constant indices

-- the base by a constant index is an operand
pub base-among : (P : ℕ → Type 0) (e : Expression) (base : ℕ) → constant_base_of e ≡ Some base → Each P (operands_of e) → P base
base-among P (AccessIndex first index) base is h = subst P (let same : first ≡ base = cc in same) h.0
base-among P _ base is h = absurd (cc)

pub chosen_base-among : (P : ℕ → Type 0) (chosen : ℕ → Bool) (arena : List (Expression × Span)) (x base : ℕ) → chosen_base chosen arena x ≡ Some base →
    Each P (operands_found (value_at arena x)) → P base
chosen_base-among P chosen arena x base is h = go (chosen x) (value_at arena x) is h
  where
    go : (t : Bool) (found : Option Expression) → (if t then option_and_then constant_base_of found else None) ≡ Some base → Each P (operands_found found) → P base
    go false found is h = absurd (cc)
    go true None is h = absurd (cc)
    go true (Some e) is h = base-among P e base is h

pub chosen_base-before : (chosen : ℕ → Bool) (arena : List (Expression × Span)) → OperandsPrecede arena → (x base : ℕ) → chosen_base chosen arena x ≡ Some base → base < x
chosen_base-before chosen arena precede x base is = chosen_base-among (λ y. y < x) chosen arena x base is (operands-before arena precede x)

module _ (r : Renaming) where
  needs_pre_emit-same : (e : Expression) → needs_pre_emit (rename_expression r e) ≡ needs_pre_emit e
  needs_pre_emit-same (Literal literal) = refl
  needs_pre_emit-same _ = refl

  ready-same : (found : Option Expression) → ready_in (option_map (rename_expression r) found) ≡ ready_in found
  ready-same None = refl
  ready-same (Some e) = needs_pre_emit-same e

  constant_base_of-renamed : (e : Expression) → constant_base_of (rename_expression r e) ≡ option_map r.expressions (constant_base_of e)
  constant_base_of-renamed (AccessIndex base index) = refl
  constant_base_of-renamed _ = refl

  found_base-renamed : (t : Bool) (found : Option Expression) →
      (if t then option_and_then constant_base_of (option_map (rename_expression r) found) else None) ≡ option_map r.expressions (if t then option_and_then constant_base_of found else None)
  found_base-renamed false found = refl
  found_base-renamed true None = refl
  found_base-renamed true (Some e) = constant_base_of-renamed e

each-kept : (kept : ℕ → Bool) (xs : List ℕ) → AreKept kept xs → Each (λ y. kept y ≡ true) xs
each-kept kept xs h = each-of_all (λ y. kept y ≡ true) xs h

module _ (old new : Function) (kept : BoundedSet) (compacts : CompactsFunction old kept new) where
  abbrev is_kept : ℕ → Bool
  is_kept = contains kept.members

  abbrev f : ℕ → ℕ
  f = new_index kept

  abbrev r : Renaming
  r = of_expressions (new_index kept)

  found : (y : ℕ) → is_kept y ≡ true → value_at new.expressions (f y) ≡ option_map (rename_expression r) (value_at old.expressions y)
  found y member = expression-found old new kept compacts y member

  kept-operands : (y : ℕ) → is_kept y ≡ true → (value : Option Expression) → value_at old.expressions y ≡ value → Each (λ w. is_kept w ≡ true) (operands_found value)
  kept-operands y member None is = tt
  kept-operands y member (Some e) is = each-kept is_kept (operands_of e) (operands-kept old new kept compacts y e member is)

  pub constant_chains_in-compacted : OperandsPrecede old.expressions → (chosen chosen' : ℕ → Bool) → ReadsAlike is_kept f chosen chosen' →
      ReadsAlike is_kept f (constant_chains_in chosen old.expressions) (constant_chains_in chosen' new.expressions)
  constant_chains_in-compacted precede chosen chosen' alike x so =
      reaches_ready-moved is_kept f (λ y. ready_in (value_at old.expressions y)) (λ y. ready_in (value_at new.expressions y)) (chosen_base chosen old.expressions) (chosen_base chosen' new.expressions)
      (λ y member. ap ready_in (found y member) ∙ ready-same r (value_at old.expressions y))
      (λ y member. (λ i. if alike y member i then option_and_then constant_base_of (found y member i) else None) ∙ found_base-renamed r (chosen y) (value_at old.expressions y))
      (λ y z member is. (chosen_base-among (λ w. is_kept w ≡ true) chosen old.expressions y z is (kept-operands y member (value_at old.expressions y) refl), chosen_base-before chosen old.expressions precede y z is))
      (λ y z member before. rank-increases is_kept y z member before)
      (suc x) (suc (f x)) x so (omega arith) (omega arith)

-- ---- renaming the elements of the module

pub renamed-found : (r : Renaming) (arena : List (Expression × Span)) (handle : ℕ) → value_at (map_values (rename_expression r) arena) handle ≡ option_map (rename_expression r) (value_at arena handle)
renamed-found r [] handle = refl
renamed-found r (entry ∷ arena) zero = refl
renamed-found r (entry ∷ arena) (suc handle) = renamed-found r arena handle

module _ (renumbering : ModuleRenumbering) (old new : Function) (is : IsRenamedFunction (renaming_of renumbering) old new) where
  abbrev renamed : Renaming
  renamed = renaming_of renumbering

  found-renamed : (x : ℕ) → value_at new.expressions x ≡ option_map (rename_expression renamed) (value_at old.expressions x)
  found-renamed x = ap (λ arena. value_at arena x) (ap (λ (whole : Function). whole.expressions) is.outside) ∙ renamed-found renamed old.expressions x

  pub chains_in-renamed : (x : ℕ) → chains_in new.expressions x ≡ chains_in old.expressions x
  chains_in-renamed x =
      place-same (λ y. true) renamed old.expressions new.expressions (λ y so. found-renamed y) (λ y e so found. λ k d inside. refl)
      (λ y z member before. before) (λ y z behind. behind) x refl

  pub constant_chains_in-renamed : OperandsPrecede old.expressions → (chosen : ℕ → Bool) (x : ℕ) → constant_chains_in chosen new.expressions x ≡ constant_chains_in chosen old.expressions x
  constant_chains_in-renamed precede chosen x =
      reaches_ready-moved (λ y. true) (λ y. y) (λ y. ready_in (value_at old.expressions y)) (λ y. ready_in (value_at new.expressions y)) (chosen_base chosen old.expressions) (chosen_base chosen new.expressions)
      (λ y member. ap ready_in (found-renamed y) ∙ ready-same renamed (value_at old.expressions y))
      (λ y member. (λ i. if chosen y then option_and_then constant_base_of (found-renamed y i) else None) ∙ found_base-renamed renamed (chosen y) (value_at old.expressions y))
      (λ y z member is. (refl, chosen_base-before chosen old.expressions precede y z is))
      (λ y z member before. before)
      (suc x) (suc x) x refl (omega arith) (omega arith)
