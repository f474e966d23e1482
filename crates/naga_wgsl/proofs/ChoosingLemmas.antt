-- The depths of the first expressions, and those of them that are chosen, when one more is looked at.
use Rattle.std.proofs.Common.{◌≡◌, ◌∙◌, sym, ap, subst, refl, inl, inr, ℕ, zero, suc, ◌+◌, ◌<◌, ◌≤◌, max, Bool, List, [], ◌∷◌, ◌++◌, length, map, Some, arith}
use Rattle.std.proofs.lemmas.Bool.{cases_lt}
use Rattle.std.specs.List.{fold}
use Rattle.std.specs.Prelude.{nat_lt, slice_index_or}
use Rattle.naga_arena.specs.Arena.{value_at}
use Rattle.naga_arena.specs.declared.span.Span.{Span}
use Rattle.naga_ir.specs.declared.expression.Expression.{Expression}
use Rattle.naga_sets.specs.HandleSet.{BoundedSet, none_below}
use Rattle.naga_valid.specs.Operands.{operands_of}
use Rattle.naga_flow.specs.ConstantChains.{with_if}
use Rattle.naga_flow.specs.Uses.{operands_found}
use Rattle.naga_compact.specs.Operands.{OperandsPrecede}
use Rattle.naga_meaning.proofs.EachLemmas.{map-each, operands-before}
use Rattle.naga_wgsl.specs.Choices.{AreChosen, AreDepths, HasFirst, depth_at, depth_by, may_be_written_out, must_be_written_out}
use Rattle.naga_wgsl.specs.Counts.{deepen}
use Rattle.naga_wgsl.specs.WrittenOut.{greatest}
use Rattle.naga_wgsl.specs.declared.depths.Deepest.{Deepest}
use Rattle.naga_wgsl.specs.declared.choices.Choices.{Choices}
use Rattle.naga_wgsl.proofs.DepthByLemmas.{depth_by-below, depth_by-enough, greatest-below}
use Rattle.naga_wgsl.proofs.HasFirstLemmas.{HasFirst-none, HasFirst-push, with_if-bound}

module _ (choices : Choices) where
  abbrev arena : List (Expression × Span)
  arena = choices.expressions.now

  abbrev operands : ℕ → List ℕ
  operands x = operands_found (value_at arena x)

  abbrev by_steps : ℕ → ℕ → ℕ
  by_steps = depth_by (must_be_written_out choices) (may_be_written_out choices) operands

  -- ---- one expression

  -- the depths of the operands of an expression, from the depths of the expressions before it
  pub nested-depth : (depths : List ℕ) (handle : ℕ) (e : Expression) → OperandsPrecede arena → value_at arena handle ≡ Some e → length depths ≡ handle → AreDepths choices depths →
      greatest (map (λ x. slice_index_or depths x 0) (operands_of e)) ≡ greatest (map (by_steps handle) (operands handle))
  nested-depth depths handle e precede found count are =
      let before = operands-before arena precede in
      let same : operands handle ≡ operands_of e = ap operands_found found in
      sym (ap (λ xs. greatest (map (λ x. slice_index_or depths x 0) xs)) same)
      ∙ ap greatest
      (map-each (λ y. y < handle) (by_steps handle) (λ x. slice_index_or depths x 0)
      (λ y less. are.each y (omega arith) ∙ depth_by-enough (must_be_written_out choices) (may_be_written_out choices) operands before (suc y) handle y (omega arith) less)
      (operands handle) (before handle))

  pub nested-below : (handle : ℕ) → greatest (map (by_steps handle) (operands handle)) ≤ handle
  nested-below handle =
      greatest-below handle (by_steps handle) (depth_by-below (must_be_written_out choices) (may_be_written_out choices) operands handle) (operands handle)

  -- ---- the first expressions

  pub AreDepths-none : AreDepths choices []
  AreDepths-none = record { each = λ handle inside. absurd (omega (arith, inside)) }

  last-or : (xs : List ℕ) (d x i : ℕ) → i ≡ length xs → slice_index_or (xs ++ d ∷ []) i x ≡ d
  last-or [] d x zero is = refl
  last-or [] d x (suc i) is = absurd (omega arith)
  last-or (y ∷ ys) d x zero is = absurd (omega arith)
  last-or (y ∷ ys) d x (suc i) is = last-or ys d x i (omega arith)

  first-or : (xs : List ℕ) (d x i : ℕ) → i < length xs → slice_index_or (xs ++ d ∷ []) i x ≡ slice_index_or xs i x
  first-or [] d x i h = absurd (omega arith)
  first-or (y ∷ ys) d x zero h = refl
  first-or (y ∷ ys) d x (suc i) h = first-or ys d x i (omega arith)

  pub length-last : (xs : List ℕ) (d : ℕ) → length (xs ++ d ∷ []) ≡ suc (length xs)
  length-last [] d = refl
  length-last (y ∷ ys) d = ap suc (length-last ys d)

  pub AreDepths-push : (depths : List ℕ) (d : ℕ) → AreDepths choices depths → d ≡ depth_at choices (length depths) → AreDepths choices (depths ++ d ∷ [])
  AreDepths-push depths d are is = record {
    each = λ handle inside. elim (cases_lt handle (length depths)) [
      | inl before ↦ first-or depths d 0 handle before ∙ are.each handle before
      | inr past ↦
          let here : handle ≡ length depths = omega (arith, inside, length-last depths d) in
          last-or depths d 0 handle here ∙ (is ∙ ap (depth_at choices) (sym here))
    ];
  }

  pub AreChosen-none : (written : BoundedSet) → written ≡ none_below (length arena) → AreChosen choices 0 written
  AreChosen-none written is = record {
    bound = ap (λ (s : BoundedSet). s.bound) is;
    chosen = subst (λ s. HasFirst (λ handle. nat_lt 0 (depth_at choices handle)) 0 s) (sym is) (HasFirst-none (λ handle. nat_lt 0 (depth_at choices handle)) (length arena));
  }

  pub AreChosen-push : (count : ℕ) (written new : BoundedSet) (is : Bool) → AreChosen choices count written → count < length arena → is ≡ nat_lt 0 (depth_at choices count) →
      new ≡ with_if is written count → AreChosen choices (count + 1) new
  AreChosen-push count written new is are inside same made = record {
    bound = ap (λ (s : BoundedSet). s.bound) made ∙ (with_if-bound is written count (omega (arith, inside, are.bound)) ∙ are.bound);
    chosen =
        subst (λ s. HasFirst (λ handle. nat_lt 0 (depth_at choices handle)) (count + 1) s) (sym made)
        (HasFirst-push (λ handle. nat_lt 0 (depth_at choices handle)) count written is are.chosen same);
  }

-- ---- the operands of an expression, one after another

pub deepen-each : (deepest : Deepest) (xs : List ℕ) → (fold deepen deepest xs).depth ≡ fold max deepest.depth (map (λ x. slice_index_or deepest.depths.now x 0) xs)
deepen-each deepest [] = refl
deepen-each deepest (x ∷ xs) = deepen-each (deepen deepest x) xs
