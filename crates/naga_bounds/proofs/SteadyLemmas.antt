-- What is evaluated where it is used has the same value as long as no length changes.
use Rattle.std.proofs.Common.{◌≡◌, ◌∙◌, sym, ap, subst, refl, inl, inr, ℕ, Bool, true, false, List, [], ◌∷◌, map, Option, Some, None, arith}
use Rattle.std.proofs.lemmas.Bool.{cases_Bool}
use Rattle.std.proofs.lemmas.List.Elements.{All-nil}
use Rattle.std.specs.List.{Contains}
use Rattle.std.specs.Prelude.{◌||◌, if◌then◌else◌, option_and_then, option_map}
use Rattle.naga_arena.specs.Arena.{value_at}
use Rattle.naga_ir.specs.Expression.{needs_pre_emit}
use Rattle.naga_ir.specs.declared.expression.Expression.{Expression}
use Rattle.naga_ir.specs.declared.expression.Expression.TheVariants.{Literal, Constant, Override, ZeroValue, FunctionArgument, GlobalVariable, LocalVariable, AccessIndex}
use Rattle.naga_valid.specs.Operands.{operands_of}
use Rattle.naga_valid.specs.declared.reference.Reference.{Reference}
use Rattle.naga_flow.specs.Places.{ready_in}
use Rattle.naga_flow.specs.Readings.{chosen_base, constant_base_of, emitted_in, passes, reaches_ready}
use Rattle.naga_flow.specs.Uses.{AreKnown, Expressions, IsKnown, MayUse, operands_found}
use Rattle.naga_compact.specs.Operands.{OperandsPrecede}
use Rattle.naga_meaning.specs.Forms.{ExpressionForm}
use Rattle.naga_meaning.specs.Functions.{Meanings, code_of, shape_of}
use Rattle.naga_meaning.specs.Readings.{IsClosedReading}
use Rattle.naga_meaning.specs.Values.{Code, World, emitted_value, value, value_within}
use Rattle.naga_meaning.proofs.EachLemmas.{operands-before}
use Rattle.naga_meaning.proofs.IsClosedReadingLemmas.{closed-read, constant_chains_in-closed}
use Rattle.naga_meaning.proofs.ReadsDecideLemmas.{ready-operands}
use Rattle.naga_meaning.proofs.ReadsOperandsLemmas.{value-kept}
use Rattle.naga_bounds.specs.Reach.{Typed, at_use, is_fixed_access}
use Rattle.naga_bounds.specs.Respects.{IsSteady, applied, array_length}

abbrev pub IsSteadyIn : Option Expression → Type 0
IsSteadyIn None = ⊥
IsSteadyIn (Some e) = IsSteady e

steady-in : (t : Bool) (test : ℕ → Bool) (found : Option Expression)
    → (ready_in found || passes test (if t then option_and_then constant_base_of found else None)) ≡ true → IsSteadyIn found
steady-in t test (Some (Literal x)) so = refl
steady-in t test (Some (Constant x)) so = refl
steady-in t test (Some (Override x)) so = refl
steady-in t test (Some (ZeroValue x)) so = refl
steady-in t test (Some (FunctionArgument x)) so = refl
steady-in t test (Some (GlobalVariable x)) so = refl
steady-in t test (Some (LocalVariable x)) so = refl
steady-in t test (Some (AccessIndex base index)) so = tt
steady-in true test _ so = absurd (let e : false ≡ true = so in cc)
steady-in false test _ so = absurd (let e : false ≡ true = so in cc)

module _ {Thing Value State : Type 0} (look : Reference → Thing) (by : Meanings Thing Value State) (number : Value → Option ℕ) (typed : Typed) (precede : OperandsPrecede typed.arena) where
  abbrev pub C : Code (Option (ExpressionForm × List (Option Thing)))
  C = code_of look (at_use typed) typed.arena

  abbrev pub ex : Expressions
  ex = emitted_in (is_fixed_access typed) typed.arena

  pub closed : IsClosedReading (at_use typed) typed.arena
  closed = constant_chains_in-closed (is_fixed_access typed) typed.arena precede

  pub steady-found : (x : ℕ) → at_use typed x ≡ true → IsSteadyIn (value_at typed.arena x)
  steady-found x so =
      steady-in (is_fixed_access typed x) (reaches_ready (λ y. ready_in (value_at typed.arena y)) (chosen_base (is_fixed_access typed) typed.arena) x) (value_at typed.arena x) so

  -- another expression is not evaluated where it is used
  pub not-at_use : (x : ℕ) (e : Expression) → value_at typed.arena x ≡ Some e → (IsSteady e → ⊥) → at_use typed x ≡ false
  not-at_use x e is other = elim (cases_Bool (at_use typed x)) [
    | inl so ↦ absurd (other (subst IsSteadyIn is (steady-found x so)))
    | inr stored ↦ stored
  ]

  -- arrays are as long in the second state, and what is steady gives the same
  pub record Alike (s s' : State) : Type 0 where
    pub lengths : (array : Value) → number (array_length look by array s') ≡ number (array_length look by array s)
    pub ready : (operator : Expression) (operands : List Value) → IsSteady operator → applied look by operator operands s' ≡ applied look by operator operands s

  steady-computes : (s s' : State) → Alike s s' → (x : ℕ) → at_use typed x ≡ true → (vs : List Value) → by.compute (C.shape x) vs s' ≡ by.compute (C.shape x) vs s
  steady-computes s s' alike x so vs = go (value_at typed.arena x) refl (steady-found x so)
    where
      go : (found : Option Expression) → value_at typed.arena x ≡ found → IsSteadyIn found → by.compute (C.shape x) vs s' ≡ by.compute (C.shape x) vs s
      go None is steady = absurd steady
      go (Some e) is steady = subst (λ v. by.compute (option_map (shape_of look) v) vs s' ≡ by.compute (option_map (shape_of look) v) vs s) (sym is) (alike.ready e vs steady)

  reads-nothing : (x : ℕ) → at_use typed x ≡ true → MayUse ex [] x
  reads-nothing x so = subst (AreKnown ex []) (sym (ap (λ t. if t then [] else x ∷ []) so)) (All-nil (IsKnown ex []))

  pub value-alike : (w w' : World Value State) → Alike w.state w'.state → (x : ℕ) → at_use typed x ≡ true → value by C w' x ≡ value by C w x
  value-alike w w' alike x so =
      value-kept by C ex (closed-read look by (at_use typed) typed.arena precede closed) (λ y is. operands-before typed.arena precede y) [] w w'
      (record { computes = λ y is vs. steady-computes w.state w'.state alike y is vs; values = λ y c. absurd (omega (arith, c.1)) }) x (reads-nothing x so)

  -- the value of what is ready
  pub value-ready : (w : World Value State) (x : ℕ) (e : Expression) → value_at typed.arena x ≡ Some e → needs_pre_emit e ≡ true → value by C w x ≡ applied look by e [] w.state
  value-ready w x e is ready =
      let so : at_use typed x ≡ true = closed.ready x (ap ready_in is ∙ ready) in
      (λ i. if so i then by.compute (option_map (shape_of look) (value_at typed.arena x)) (map (value_within by C x w) (operands_found (value_at typed.arena x))) w.state else w.values x)
      ∙ (λ i. by.compute (option_map (shape_of look) (is i)) (map (value_within by C x w) (operands_found (is i))) w.state)
      ∙ (λ i. by.compute (Some (shape_of look e)) (map (value_within by C x w) (ready-operands e ready i)) w.state)

  pub value-stored : (w : World Value State) (x : ℕ) → at_use typed x ≡ false → value by C w x ≡ w.values x
  value-stored w x stored = λ i. if stored i then by.compute (C.shape x) (map (value_within by C x w) (C.operands x)) w.state else w.values x

  pub emitted-at : (w : World Value State) (x : ℕ) (e : Expression) → value_at typed.arena x ≡ Some e → emitted_value by C w x ≡ by.compute (Some (shape_of look e)) (map (value by C w) (operands_of e)) w.state
  emitted-at w x e is = λ i. by.compute (option_map (shape_of look) (is i)) (map (value by C w) (operands_found (is i))) w.state

  -- what is used and is not evaluated there has been evaluated
  pub evaluated-before : (known : List ℕ) (x : ℕ) → at_use typed x ≡ false → MayUse ex known x → Contains known x
  evaluated-before known x stored so = (closed-read look by (at_use typed) typed.arena precede closed).itself known x stored so
