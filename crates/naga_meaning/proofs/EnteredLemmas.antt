-- The meaning of a function whose body uses only what has been evaluated does not depend on the values before.
use Rattle.std.proofs.Common.{◌≡◌, ◌∙◌, ap, refl, ℕ, zero, suc, ◌<◌, Bool, List, [], ◌∷◌, map, Option, Some, None, arith}
use Rattle.std.specs.FinSet.{contains}
use Rattle.std.specs.Prelude.{option_map}
use Rattle.naga_arena.specs.declared.span.Span.{Span}
use Rattle.naga_ir.specs.View.{tree_of}
use Rattle.naga_ir.specs.declared.expression.Expression.{Expression}
use Rattle.naga_ir.specs.declared.module.Function.{Function}
use Rattle.naga_sets.specs.HandleSet.{BoundedSet}
use Rattle.naga_valid.specs.declared.reference.Reference.{Reference}
use Rattle.naga_flow.specs.Uses.{UsesKnown, expressions_in}
use Rattle.naga_compact.specs.Functions.{CompactsFunction}
use Rattle.naga_compact.specs.Kept.{new_index}
use Rattle.naga_compact.specs.Operands.{OperandsPrecede}
use Rattle.naga_meaning.specs.Forms.{ExpressionForm}
use Rattle.naga_meaning.specs.Functions.{HandlesAreInside, Meanings, code_of, initials, meaning}
use Rattle.naga_meaning.proofs.Known.{ReadsDecide}
use Rattle.naga_meaning.specs.Readings.{ReadsAlike, read_by}
use Rattle.naga_meaning.specs.Renaming.{SameKept}
use Rattle.naga_meaning.specs.Values.{Code, World, constant, constant_within, entered}
use Rattle.naga_meaning.proofs.EachLemmas.{map-each, operands-before}
use Rattle.naga_meaning.proofs.MeaningLemmas.{meaning-compacted}
use Rattle.naga_meaning.proofs.AgreeOnLemmas.{outcome-agrees}

module _ {Thing Value State : Type 0} (look : Reference → Thing) (by : Meanings Thing Value State) (at_use : ℕ → Bool) (arena : List (Expression × Span)) (precede : OperandsPrecede arena) where
  abbrev code : Code (Option (ExpressionForm × List (Option Thing)))
  code = code_of look at_use arena

  constant-agrees : (k x : ℕ) (a b : World Value State) → b.state ≡ a.state → x < k → constant_within by code k b x ≡ constant_within by code k a x
  constant-agrees zero x a b s less = absurd (omega (arith, less))
  constant-agrees (suc k) x a b s less =
      λ i. by.compute (code.shape x) (map-each (λ y. y < x) (constant_within by code k a) (constant_within by code k b)
      (λ y earlier. constant-agrees k y a b s (omega (arith, less, earlier))) (code.operands x) (operands-before arena precede x) i) (s i)

  constants-agree : (inits : List (Option ℕ)) (a b : World Value State) → b.state ≡ a.state → map (option_map (constant by code b)) inits ≡ map (option_map (constant by code a)) inits
  constants-agree [] a b s = refl
  constants-agree (None ∷ rest) a b s = ap (λ vs. None ∷ vs) (constants-agree rest a b s)
  constants-agree (Some x ∷ rest) a b s = λ i. Some (constant-agrees (suc x) x a b s (omega arith) i) ∷ constants-agree rest a b s i

  pub entered-agrees : (inits : List (Option ℕ)) (a b : World Value State) → b.state ≡ a.state → (entered by code inits b).state ≡ (entered by code inits a).state
  entered-agrees inits a b s = λ i. by.enter (constants-agree inits a b s i) (s i)

-- the meaning of a function does not depend on the values before, if what a use reads decides the value
pub meaning-agrees : {Thing Value State : Type 0} (function : Function) → OperandsPrecede function.expressions → (at_use : ℕ → Bool) (reads : ℕ → List ℕ) (look : Reference → Thing)
    (by : Meanings Thing Value State) → ReadsDecide by (code_of look at_use function.expressions) (record (expressions_in function.expressions) { reads = reads }) →
    UsesKnown (record (expressions_in function.expressions) { reads = reads }) [] (tree_of function.body) → (turns : ℕ) (a b : World Value State) → b.state ≡ a.state →
    meaning look by turns (read_by at_use function) b ≡ meaning look by turns (read_by at_use function) a
meaning-agrees function precede at_use reads look by decide uses turns a b s =
    let code = code_of look at_use function.expressions in
    let inits = initials function.local_variables in
    outcome-agrees look by at_use function.expressions reads decide (tree_of function.body) uses turns
    (entered by code inits a) (entered by code inits b) (entered-agrees look by at_use function.expressions precede inits a b s)

-- compacting such a function keeps its meaning, whatever values were there before
pub meaning-checked : {Thing Value State : Type 0} (old new : Function) (kept : BoundedSet) → CompactsFunction old kept new → HandlesAreInside old →
    (at_use at_use' : ℕ → Bool) → ReadsAlike (contains kept.members) (new_index kept) at_use at_use' → (reads : ℕ → List ℕ) (look : Reference → Thing)
    (by : Meanings Thing Value State) → ReadsDecide by (code_of look at_use old.expressions) (record (expressions_in old.expressions) { reads = reads }) →
    UsesKnown (record (expressions_in old.expressions) { reads = reads }) [] (tree_of old.body) → (turns : ℕ) (a b : World Value State) → b.state ≡ a.state →
    meaning look by turns (read_by at_use' new) b ≡ meaning look by turns (read_by at_use old) a
meaning-checked old new kept compacts inside at_use at_use' alike reads look by decide uses turns a b s =
    let between = record b { values = λ x. b.values (new_index kept x) } in
    let same : SameKept (contains kept.members) (new_index kept) between b = record { state = refl; values = λ x so. refl } in
    meaning-compacted old new kept compacts inside at_use at_use' alike look by turns between b same
    ∙ meaning-agrees old inside.precede at_use reads look by decide uses turns a between s
