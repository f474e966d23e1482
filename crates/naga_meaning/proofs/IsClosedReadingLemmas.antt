-- Readings by which a value where it is used depends on the state and on what has been evaluated.
use Rattle.std.proofs.Common.{◌≡◌, ◌∙◌, sym, ap, subst, refl, inl, inr, ℕ, suc, ◌<◌, Bool, true, false, List, [], ◌∷◌, Option, Some, None, arith}
use Rattle.std.proofs.lemmas.List.Elements.{All-head, All-nil}
use Rattle.std.specs.List.{Contains}
use Rattle.std.specs.Prelude.{◌||◌, if◌then◌else◌, option_and_then, option_map}
use Rattle.naga_arena.specs.Arena.{value_at}
use Rattle.naga_arena.specs.declared.span.Span.{Span}
use Rattle.naga_ir.specs.declared.expression.Expression.{Expression}
use Rattle.naga_ir.specs.declared.expression.Expression.TheVariants.{Literal, Constant, Override, ZeroValue, FunctionArgument, GlobalVariable, LocalVariable, AccessIndex}
use Rattle.naga_valid.specs.declared.reference.Reference.{Reference}
use Rattle.naga_flow.specs.Places.{ready_in}
use Rattle.naga_flow.specs.Results.{evaluation_of}
use Rattle.naga_flow.specs.Uses.{AreKnown, Expressions, IsKnown, MayUse, operands_found}
use Rattle.naga_flow.specs.declared.evaluation.Evaluation.TheVariants as by
use Rattle.naga_compact.specs.Operands.{OperandsPrecede}
use Rattle.naga_meaning.specs.Forms.{ExpressionForm}
use Rattle.naga_meaning.specs.Functions.{Meanings, code_of}
use Rattle.naga_meaning.proofs.Known.{ReadsDecide}
use Rattle.naga_flow.specs.Readings.{chosen_base, constant_base_of, constant_chains_in, expressions_by, passes, reaches_ready}
use Rattle.naga_flow.proofs.ReachesReadyLemmas.{reaches_ready-stable}
use Rattle.naga_meaning.specs.Readings.{IsClosedReading}
use Rattle.naga_meaning.specs.Renaming.{Each}
use Rattle.naga_meaning.specs.Values.{Code}
use Rattle.naga_meaning.proofs.EachLemmas.{all-of_each, each-weaker, operands-before}
use Rattle.naga_meaning.proofs.ReadsOperandsLemmas.{ReadsOperands, operands-decide}
use Rattle.naga_meaning.proofs.ReadsAlikeLemmas.{chosen_base-before}
use Rattle.naga_meaning.proofs.ReadsDecideLemmas.{ready-evaluation}

-- ---- what a use reads decides its value

module _ {Thing Value State : Type 0} (look : Reference → Thing) (meant : Meanings Thing Value State) (at_use : ℕ → Bool) (arena : List (Expression × Span))
    (precede : OperandsPrecede arena) (closed : IsClosedReading at_use arena) where
  abbrev code : Code (Option (ExpressionForm × List (Option Thing)))
  code = code_of look at_use arena

  abbrev ex : Expressions
  ex = expressions_by at_use arena

  is_ready : (x : ℕ) (found : Option Expression) → value_at arena x ≡ found → option_map evaluation_of found ≡ Some by.Ready → ready_in (value_at arena x) ≡ true
  is_ready x None is h = absurd (cc)
  is_ready x (Some e) is h = ap ready_in is ∙ ready-evaluation e (let same : evaluation_of e ≡ by.Ready = cc in same)

  -- what is evaluated where it is used reads nothing
  reads-nothing : (known : List ℕ) (x : ℕ) → at_use x ≡ true → MayUse ex known x
  reads-nothing known x is = subst (AreKnown ex known) (sym (ap (λ t. if t then [] else x ∷ []) is)) (All-nil (IsKnown ex known))

  only-itself : (known : List ℕ) (x : ℕ) → at_use x ≡ false → IsKnown ex known x → Contains known x
  only-itself known x is (inl ready) =
      absurd (let other : at_use x ≡ true = closed.ready x (is_ready x (value_at arena x) refl ready) in let clash : true ≡ false = sym other ∙ is in cc)
  only-itself known x is (inr inside) = inside

  pub closed-read : ReadsOperands code ex
  closed-read = record {
    operands = λ known x is so. all-of_each (MayUse ex known) (code.operands x) (each-weaker (λ y. at_use y ≡ true) (MayUse ex known) (reads-nothing known) (code.operands x) (closed.operands x is));
    itself = λ known x is so. only-itself known x is (All-head (IsKnown ex known) x [] (subst (AreKnown ex known) (ap (λ t. if t then [] else x ∷ []) is) so));
  }

  pub closed-decides : ReadsDecide meant code ex
  closed-decides = operands-decide meant code ex closed-read (λ x is. operands-before arena precede x)

-- ---- accesses by constant indices

module _ (chosen : ℕ → Bool) (arena : List (Expression × Span)) (precede : OperandsPrecede arena) where
  abbrev ready : ℕ → Bool
  ready x = ready_in (value_at arena x)

  abbrev base : ℕ → Option ℕ
  base = chosen_base chosen arena

  abbrev at_use : ℕ → Bool
  at_use = constant_chains_in chosen arena

  stable : (x y : ℕ) → y < x → reaches_ready ready base x y ≡ true → at_use y ≡ true
  stable x y before so =
      reaches_ready-stable ready base (suc y) (λ z w less is. chosen_base-before chosen arena precede z w is) x (suc y) y (omega arith) before (omega arith) ∙ so

  operands-at_use : (x : ℕ) (t : Bool) (found : Option Expression) → Each (λ y. y < x) (operands_found found) →
      (ready_in found || passes (reaches_ready ready base x) (if t then option_and_then constant_base_of found else None)) ≡ true →
      Each (λ y. at_use y ≡ true) (operands_found found)
  operands-at_use x t None before so = tt
  operands-at_use x t (Some (Literal value)) before so = tt
  operands-at_use x t (Some (Constant value)) before so = tt
  operands-at_use x t (Some (Override value)) before so = tt
  operands-at_use x t (Some (ZeroValue value)) before so = tt
  operands-at_use x t (Some (FunctionArgument value)) before so = tt
  operands-at_use x t (Some (GlobalVariable value)) before so = tt
  operands-at_use x t (Some (LocalVariable value)) before so = tt
  operands-at_use x true (Some (AccessIndex first index)) before so = (stable x first before.0 so, tt)
  operands-at_use x true (Some _) before so = absurd (let e : false ≡ true = so in cc)
  operands-at_use x false (Some _) before so = absurd (let e : false ≡ true = so in cc)

  pub constant_chains_in-closed : IsClosedReading at_use arena
  constant_chains_in-closed = record {
    ready = λ x so. ap (λ t. t || passes (reaches_ready ready base x) (base x)) so;
    operands = λ x so. operands-at_use x (chosen x) (value_at arena x) (operands-before arena precede x) so;
  }
