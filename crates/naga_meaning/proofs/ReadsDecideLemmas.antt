-- The value of an expression depends only on what its use reads.
use Rattle.std.proofs.Common.{◌≡◌, ◌∙◌, sym, ap, subst, refl, inl, inr, ℕ, ◌<◌, Bool, true, false, List, [], ◌∷◌, ◌++◌, Option, Some, None, arith}
use Rattle.std.proofs.lemmas.Bool.{cases_Bool}
use Rattle.std.proofs.lemmas.Bool.Decides.{nat_tests}
use Rattle.std.proofs.lemmas.List.Elements.{All-cons, All-head, All-nil, All-tail}
use Rattle.std.specs.List.{Contains}
use Rattle.std.specs.Prelude.{if◌then◌else◌, nat_lt, option_and_then, option_map, option_to_list}
use Rattle.naga_arena.specs.Arena.{value_at}
use Rattle.naga_arena.specs.declared.span.Span.{Span}
use Rattle.naga_ir.specs.Expression.{base_of, needs_pre_emit}
use Rattle.naga_ir.specs.declared.expression.Expression.{Expression}
use Rattle.naga_ir.specs.declared.expression.Expression.TheVariants.{Literal, Constant, Override, ZeroValue, FunctionArgument, GlobalVariable, LocalVariable, Access, AccessIndex}
use Rattle.naga_valid.specs.Operands.{operands_of}
use Rattle.naga_valid.specs.declared.reference.Reference.{Reference}
use Rattle.naga_flow.specs.Places.{if_before, index_of, base_before, indices_of_chain, ready_in}
use Rattle.naga_flow.specs.Results.{evaluation_of}
use Rattle.naga_flow.specs.Uses.{Expressions, expressions_in, IsKnown, AreKnown, MayUse, operands_found}
use Rattle.naga_flow.specs.declared.evaluation.Evaluation.TheVariants as by
use Rattle.naga_flow.proofs.PlacesLemmas.{end-last, end-next, indices-last, indices-next}
use Rattle.naga_compact.specs.Operands.{OperandsPrecede}
use Rattle.naga_meaning.specs.Forms.{ExpressionForm}
use Rattle.naga_meaning.specs.Functions.{Meanings, code_of}
use Rattle.naga_meaning.proofs.Known.{ReadsDecide}
use Rattle.naga_meaning.specs.Readings.{IndicesAreValues, chains_in}
use Rattle.naga_meaning.specs.Renaming.{Each}
use Rattle.naga_meaning.specs.Replacing.{ChainsGoBack}
use Rattle.naga_meaning.specs.Values.{Code}
use Rattle.naga_meaning.proofs.EachLemmas.{all-of_each, operands-before}
use Rattle.naga_meaning.proofs.ReadsOperandsLemmas.{ReadsOperands, operands-decide}

-- ---- expressions that are ready

pub ready-operands : (e : Expression) → needs_pre_emit e ≡ true → operands_of e ≡ []
ready-operands (Literal x) h = refl
ready-operands (Constant x) h = refl
ready-operands (Override x) h = refl
ready-operands (ZeroValue x) h = refl
ready-operands (FunctionArgument x) h = refl
ready-operands (GlobalVariable x) h = refl
ready-operands (LocalVariable x) h = refl
ready-operands _ h = absurd (let e : false ≡ true = h in cc)

pub ready-base : (e : Expression) → needs_pre_emit e ≡ true → base_of e ≡ None
ready-base (Access base index) h = absurd (let e : false ≡ true = h in cc)
ready-base (AccessIndex base index) h = absurd (let e : false ≡ true = h in cc)
ready-base _ h = refl

pub ready-evaluation : (e : Expression) → evaluation_of e ≡ by.Ready → needs_pre_emit e ≡ true
ready-evaluation (Literal x) h = refl
ready-evaluation (Constant x) h = refl
ready-evaluation (Override x) h = refl
ready-evaluation (ZeroValue x) h = refl
ready-evaluation (FunctionArgument x) h = refl
ready-evaluation (GlobalVariable x) h = refl
ready-evaluation (LocalVariable x) h = refl
ready-evaluation _ h = absurd cc

module _ {Thing Value State : Type 0} (look : Reference → Thing) (meant : Meanings Thing Value State) (arena : List (Expression × Span)) (precede : OperandsPrecede arena) (indices : IndicesAreValues arena) where
  abbrev at_use : ℕ → Bool
  at_use = chains_in arena

  abbrev code : Code (Option (ExpressionForm × List (Option Thing)))
  code = code_of look at_use arena

  abbrev ex : Expressions
  ex = expressions_in arena

  -- ---- chains

  no_base : (x : ℕ) (e : Expression) → value_at arena x ≡ Some e → base_of e ≡ None → base_before arena x ≡ None
  no_base x e found none = ap (λ v. if_before x (option_and_then base_of v)) found ∙ ap (if_before x) none

  ready_ends : (x : ℕ) → ready_in (value_at arena x) ≡ true → base_before arena x ≡ None
  ready_ends x ready = go (value_at arena x) refl ready
    where
      go : (found : Option Expression) → value_at arena x ≡ found → ready_in found ≡ true → base_before arena x ≡ None
      go None is h = absurd (let e : false ≡ true = h in cc)
      go (Some e) is h = no_base x e is (ready-base e h)

  pub ready_is_at_use : (x : ℕ) → ready_in (value_at arena x) ≡ true → at_use x ≡ true
  ready_is_at_use x ready = ap (λ y. ready_in (value_at arena y)) (end-last arena x (ready_ends x ready)) ∙ ready

  has_base : (x base : ℕ) (e : Expression) → value_at arena x ≡ Some e → base_of e ≡ Some base → base < x → base_before arena x ≡ Some base
  has_base x base e found is less =
      let before : nat_lt base x ≡ true = grind (arith, nat_tests) in
      ap (λ v. if_before x (option_and_then base_of v)) found ∙ ap (if_before x) is ∙ ap (λ t. if t then Some base else None) before

  pub evaluated_ready : (x : ℕ) (found : Option Expression) → value_at arena x ≡ found → option_map evaluation_of found ≡ Some by.Ready → ready_in (value_at arena x) ≡ true
  evaluated_ready x None is h = absurd (cc)
  evaluated_ready x (Some e) is h = ap ready_in is ∙ ready-evaluation e (let same : evaluation_of e ≡ by.Ready = cc in same)

  -- ---- operands

  back : ChainsGoBack meant code
  back x h = operands-before arena precede x

  -- an expression that is not evaluated where it is used
  only-itself : (known : List ℕ) (x : ℕ) → at_use x ≡ false → IsKnown ex known x → Contains known x
  only-itself known x is (inl ready) =
      absurd (let other : at_use x ≡ true = ready_is_at_use x (evaluated_ready x (value_at arena x) refl ready) in let clash : true ≡ false = sym other ∙ is in cc)
  only-itself known x is (inr inside) = inside

  -- what a use reads, where the expression is evaluated at its use and where it is not
  reads-chain : (known : List ℕ) (x : ℕ) → at_use x ≡ true → AreKnown ex known (indices_of_chain arena x x) → MayUse ex known x
  reads-chain known x is so = subst (AreKnown ex known) (sym (ap (λ t. if t then indices_of_chain arena x x else x ∷ []) is)) so

  reads-itself : (known : List ℕ) (x : ℕ) → at_use x ≡ false → IsKnown ex known x → MayUse ex known x
  reads-itself known x is so =
      subst (AreKnown ex known) (sym (ap (λ t. if t then indices_of_chain arena x x else x ∷ []) is)) (All-cons (IsKnown ex known) x [] so (All-nil (IsKnown ex known)))

  index-may_be_used : (known : List ℕ) (x base index : ℕ) → value_at arena x ≡ Some (Access base index) → IsKnown ex known index → MayUse ex known index
  index-may_be_used known x base index found so = elim (cases_Bool (at_use index)) [
    | inl is ↦
        reads-chain known index is (subst (AreKnown ex known) (sym (indices-last arena index (ready_ends index (indices x base index found is)))) (All-nil (IsKnown ex known)))
    | inr is ↦ reads-itself known index is so
  ]

  operands-may_be_used : (known : List ℕ) (x : ℕ) → at_use x ≡ true → AreKnown ex known (indices_of_chain arena x x) → (found : Option Expression) → value_at arena x ≡ found →
      Each (λ y. y < x) (operands_found found) → Each (MayUse ex known) (operands_found found)
  operands-may_be_used known x place so None is less = tt
  operands-may_be_used known x place so (Some (Access base index)) is less =
      let is_base : base_before arena x ≡ Some base = has_base x base (Access base index) is refl less.0 in
      let base_place : at_use base ≡ true = ap (λ y. ready_in (value_at arena y)) (sym (end-next arena x base is_base)) ∙ place in
      let all : AreKnown ex known (index ∷ indices_of_chain arena base base) =
      subst (AreKnown ex known) (indices-next arena x base is_base ∙ ap (λ v. option_to_list (option_and_then index_of v) ++ indices_of_chain arena base base) is) so
      in (
        reads-chain known base base_place (All-tail (IsKnown ex known) index (indices_of_chain arena base base) all),
        (index-may_be_used known x base index is (All-head (IsKnown ex known) index (indices_of_chain arena base base) all), tt),
      )
  operands-may_be_used known x place so (Some (AccessIndex base index)) is less =
      let is_base : base_before arena x ≡ Some base = has_base x base (AccessIndex base index) is refl less.0 in
      let base_place : at_use base ≡ true = ap (λ y. ready_in (value_at arena y)) (sym (end-next arena x base is_base)) ∙ place in
      let all : AreKnown ex known (indices_of_chain arena base base) =
      subst (AreKnown ex known) (indices-next arena x base is_base ∙ ap (λ v. option_to_list (option_and_then index_of v) ++ indices_of_chain arena base base) is) so
      in (reads-chain known base base_place all, tt)
  operands-may_be_used known x place so (Some e) is less =
      let ends : at_use x ≡ ready_in (value_at arena x) = ap (λ y. ready_in (value_at arena y)) (end-last arena x (no_base x e is refl)) in
      let ready : needs_pre_emit e ≡ true = sym (ap ready_in is) ∙ sym ends ∙ place in
      subst (Each (MayUse ex known)) (sym (ready-operands e ready)) tt

  pub chains-read : ReadsOperands code ex
  chains-read = record {
    operands = λ known x is so.
        let chain : AreKnown ex known (indices_of_chain arena x x) = subst (AreKnown ex known) (ap (λ t. if t then indices_of_chain arena x x else x ∷ []) is) so in
        all-of_each (MayUse ex known) (code.operands x) (operands-may_be_used known x is chain (value_at arena x) refl (operands-before arena precede x));
    itself = λ known x is so. only-itself known x is (All-head (IsKnown ex known) x [] (subst (AreKnown ex known) (ap (λ t. if t then indices_of_chain arena x x else x ∷ []) is) so));
  }

  pub reads-decide : ReadsDecide meant code ex
  reads-decide = operands-decide meant code ex chains-read back
