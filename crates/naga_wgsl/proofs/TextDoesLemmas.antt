-- The text of a function does what the function does, by any reading whose uses read what they need.
use Rattle.std.proofs.Common.{◌≡◌, ap, refl, subst, ℕ, Bool, true, List, [], Option, Some, None}
use Rattle.std.specs.Prelude.{◌||◌, nat_eq, option_map}
use Rattle.naga_flow.specs.Places.{ready_in}
use Rattle.naga_flow.specs.Results.{evaluation_of}
use Rattle.naga_flow.specs.Scopes.{BlockPasses}
use Rattle.naga_flow.specs.Uses.{expressions_in}
use Rattle.naga_flow.specs.declared.evaluation.Evaluation.TheVariants as by_way
use Rattle.naga_ir.specs.View.{tree_of}
use Rattle.naga_ir.specs.declared.expression.Expression.{Expression}
use Rattle.naga_ir.specs.declared.module.Function.{Function}
use Rattle.naga_valid.specs.declared.reference.Reference.{Reference}
use Rattle.naga_compact.specs.Operands.{OperandsPrecede}
use Rattle.naga_meaning.specs.Functions.{Meanings, code_of, initials, meaning}
use Rattle.naga_meaning.specs.Readings.{read_by}
use Rattle.naga_meaning.specs.Values.{World, entered}
use Rattle.naga_meaning.proofs.EvaluatedOnceLemmas.{EvaluatedOnce-new}
use Rattle.naga_meaning.proofs.ReadsDecideLemmas.{ready-evaluation}
use Rattle.naga_meaning.proofs.ReadsOperandsLemmas.{ReadsOperands}
use Rattle.naga_wgsl.specs.Inlining.{MayInline, read_inline, text_meaning, with_inline}
use Rattle.naga_wgsl.specs.Lowering.{begun, text_of_reading}
use Rattle.naga_wgsl.specs.Scopes.{Leaves, text_does}
use Rattle.naga_wgsl.proofs.LeavesLemmas.{text-leaves}
use Rattle.naga_wgsl.proofs.WithInlineLemmas.{names-known, outcome-written}

-- what has its value when the function is entered is ready
pub evaluated-ready : (found : Option Expression) → option_map evaluation_of found ≡ Some by_way.Ready → ready_in found ≡ true
evaluated-ready None h = absurd (cc)
evaluated-ready (Some e) h = ready-evaluation e (let same : evaluation_of e ≡ by_way.Ready = cc in same)

module _ {Thing Value State : Type 0} (look : Reference → Thing) (by : Meanings Thing Value State) (at_use inline : ℕ → Bool) (function : Function) (precede : OperandsPrecede function.expressions)
    (reads : ℕ → List ℕ) (read : ReadsOperands (code_of look at_use function.expressions) (record (expressions_in function.expressions) { reads = reads }))
    (may : MayInline by (expressions_in function.expressions) inline (code_of look at_use function.expressions))
    (passes : BlockPasses (record (expressions_in function.expressions) { reads = reads }) [] [] (tree_of function.body)) where
  abbrev begins : World Value State → World Value State
  begins start = entered by (code_of look at_use function.expressions) (initials function.local_variables) start

  pub meaning-written : (turns : ℕ) (start : World Value State) → text_meaning look by turns (read_inline at_use inline function) start ≡ meaning look by turns (read_by at_use function) start
  meaning-written turns start =
      outcome-written look by at_use inline function.expressions precede reads read may (tree_of function.body) (EvaluatedOnce-new (tree_of function.body) passes.1) passes.0 turns (begins start) (begins start) refl

  -- expressions that have their values when the function is entered are evaluated where they are used
  module _ {Name : Type 0} (same : Name → Name → Bool) (name : ℕ → Name) (distinct : (x y : ℕ) → same (name y) (name x) ≡ nat_eq y x)
      (ready : (x : ℕ) → (expressions_in function.expressions).evaluation x ≡ Some by_way.Ready → at_use x ≡ true) where
    pub text-does : (turns : ℕ) (names : Name → Value) (start : World Value State) →
        Leaves same by (text_does same by turns (text_of_reading name look (read_inline at_use inline function)) names (begun look by (read_inline at_use inline function) start))
        (meaning look by turns (read_by at_use function) start)
    text-does turns names start =
        subst
        (Leaves same by (text_does same by turns (text_of_reading name look (read_inline at_use inline function)) names (begun look by (read_inline at_use inline function) start)))
        (meaning-written turns start)
        (text-leaves same look by function.expressions (with_inline at_use inline) name distinct precede (λ x is. ap (λ t. t || inline x) (ready x is)) (tree_of function.body)
        (names-known look by at_use inline function.expressions precede reads read may (tree_of function.body) passes.0) passes.1 turns names (begins start))
