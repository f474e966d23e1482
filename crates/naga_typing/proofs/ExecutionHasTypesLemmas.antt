-- In a function that passes the checks, each value that is computed has the type of its expression.
use Rattle.std.proofs.Common.{◌≡◌, ◌∙◌, sym, ap, subst, refl, inl, inr, append_assoc, ◌⊎◌, ℕ, zero, suc, ◌<◌, Bool, true, false, List, [], ◌∷◌, ◌++◌, map, Option, Some, None, option_to_list, arith}
use Rattle.std.proofs.lemmas.Bool.{cases_Bool}
use Rattle.std.proofs.lemmas.List.{append-nil}
use Rattle.std.proofs.lemmas.List.Elements.{All-contains, All-head, All-nil, All-tail, Contains-append_cases, Contains-append_right, Contains-push}
use Rattle.std.proofs.lemmas.Option.{none-some}
use Rattle.std.specs.List.{AllByRecursion, Contains}
use Rattle.std.specs.Prelude.{All, ◌||◌, if◌then◌else◌, option_and_then, option_map}
use Rattle.naga_arena.specs.Arena.{value_at}
use Rattle.naga_arena.specs.declared.span.Span.{Span}
use Rattle.naga_kinds.specs.declared.scalar.TheConstants.Scalar.{BOOL}
use Rattle.naga_ir.specs.Tree.{Tree}
use Rattle.naga_ir.specs.View.{tree_of}
use Rattle.naga_ir.specs.declared.expression.Expression.{Expression}
use Rattle.naga_ir.specs.declared.expression.Expression.TheVariants.{Literal, Constant, Override, ZeroValue, FunctionArgument, GlobalVariable, LocalVariable, AccessIndex, Load}
use Rattle.naga_ir.specs.declared.module.Function as function
use Rattle.naga_ir.specs.declared.module.Module as the_module
use Rattle.naga_ir.specs.declared.statement.Statement.{Statement, Emit}
use Rattle.naga_valid.specs.Operands.{operands_of}
use Rattle.naga_valid.specs.declared.reference.Reference.{Reference}
use Rattle.naga_runs.specs.declared.run.Ending.{Ending}
use Rattle.naga_runs.specs.declared.run.Ending.TheVariants.{Return}
use Rattle.naga_flow.specs.Events.{Event, met, branched, selected, returned, EventUsesKnown, evaluated_in}
use Rattle.naga_flow.specs.Places.{ready_in}
use Rattle.naga_flow.specs.Readings.{chosen_base, constant_base_of, constant_chains_in, emitted_in, passes, reaches_ready}
use Rattle.naga_flow.specs.Results.{emitted_by, evaluated_by, evaluation_by, evaluation_of, result_of, used_by}
use Rattle.naga_flow.specs.Tracking.{Includes}
use Rattle.naga_flow.specs.Uses.{AreEvaluatedBy, Expressions, MayUse, MayUseEach, OperandsAreKnown, PlainUsesKnown, operands_found}
use Rattle.naga_flow.specs.declared.evaluation.Evaluation.{Evaluation}
use Rattle.naga_flow.specs.declared.evaluation.Evaluation.TheVariants as by_way
use Rattle.naga_flow.proofs.AllLemmas.{All-both}
use Rattle.naga_flow.proofs.EventsLemmas.{EventsUseKnown, EventsUseKnown-each, evaluated_in-append}
use Rattle.naga_flow.proofs.IncludesLemmas.{Contains-one, Includes-both, Includes-itself, Includes-left, Includes-right, Includes-shifted}
use Rattle.naga_flow.proofs.UsesKnownLemmas.{MayUse-more, MayUseEach-more}
use Rattle.naga_flow.proofs.UsesOnlyEvaluatedLemmas.{BlockRuns-uses}
use Rattle.naga_meaning.specs.Adequacy.{IsABeginning, after}
use Rattle.naga_meaning.specs.Forms.{ExpressionForm, StatementForm}
use Rattle.naga_meaning.specs.Functions.{Meanings, action_of, code_of, parts, shape_of}
use Rattle.naga_meaning.specs.Machine.{Done, Machine, Stop, killed, cut_off, does, ending_after}
use Rattle.naga_meaning.specs.Readings.{IsClosedReading}
use Rattle.naga_meaning.specs.Renaming.{Each}
use Rattle.naga_meaning.specs.Values.{Code, World, acted, emit, emitted_value, outcome, put, put_result, result_of_ending, value, value_within}
use Rattle.naga_meaning.proofs.EachLemmas.{each-both, each-of_all, each-weaker, operands-before}
use Rattle.naga_meaning.proofs.IsABeginningLemmas.{does-IsABeginning}
use Rattle.naga_meaning.proofs.IsClosedReadingLemmas.{closed-read, constant_chains_in-closed}
use Rattle.naga_meaning.proofs.ReadsOperandsLemmas.{ReadsOperands}
use Rattle.naga_meaning.proofs.RenamesCodeLemmas.{eq-either, eq-no, eq-yes}
use Rattle.naga_typifier.specs.Context.{Context, context_in}
use Rattle.naga_typifier.specs.Rows.{handle}
use Rattle.naga_typifier.specs.Table.{type_of}
use Rattle.naga_typifier.specs.declared.resolution.TypeResolution.{TypeResolution}
use Rattle.naga_typing.specs.Forms.{Form}
use Rattle.naga_typing.specs.Requirements.{Fits, Signature, sized_type}
use Rattle.naga_typing.specs.Requirements as requires
use Rattle.naga_typing.specs.Runs.{EventIsTyped}
use Rattle.naga_typing.specs.Statements.{required}
use Rattle.naga_typing.specs.TypedFunctions.{signature_in}
use Rattle.naga_typing.proofs.EventIsTypedLemmas.{block-typed}
use Rattle.naga_typing.proofs.TypesInLemmas.{type-found}
use Rattle.naga_typing.specs.TypedValues.{HasType, HasTypeOf, HaveTypesOf, IsOperator, IsPerformed, IsReturnedAs, RespectsTypesIn, UsesOthers, applied, types_in}
use Rattle.naga_typing.specs.TypedExecutions.{EventHasTypes, ExecutionHasTypes, IsChecked, IsUsed, OutcomeHasTypes, WorldHasTypes, machine_of}
use Rattle.naga_typing.proofs.HasTypeOfLemmas.{HasTypeOf-known}
use Rattle.naga_typing.proofs.EventsLemmas.{IsReturnedIn, at-split, block-returned}
use Rattle.naga_typing.proofs.UsesOthersLemmas.{MetUsesOthers, block-others}

-- ---- ways in which expressions get their values

-- the expression is ready, or an `Emit` evaluates it
abbrev IsComputed : Expression → Type 0
IsComputed e = (evaluation_of e ≡ by_way.Ready) ⊎ (evaluation_of e ≡ by_way.Emit)

abbrev IsComputedIn : Option Expression → Type 0
IsComputedIn None = ⊥
IsComputedIn (Some e) = IsComputed e

-- an expression that is computed is a load or the expression of an operator
load-or-operator : (e : Expression) → ((pointer : ℕ) × (e ≡ Load pointer)) ⊎ (IsComputed e → IsOperator e)
load-or-operator (Load pointer) = inl (pointer, refl)
load-or-operator _ = inr (λ way. way)

used-computed : (t : Bool) (test : ℕ → Bool) (found : Option Expression)
    → (ready_in found || passes test (if t then option_and_then constant_base_of found else None)) ≡ true → IsComputedIn found
used-computed t test (Some (Literal x)) so = inl refl
used-computed t test (Some (Constant x)) so = inl refl
used-computed t test (Some (Override x)) so = inl refl
used-computed t test (Some (ZeroValue x)) so = inl refl
used-computed t test (Some (FunctionArgument x)) so = inl refl
used-computed t test (Some (GlobalVariable x)) so = inl refl
used-computed t test (Some (LocalVariable x)) so = inl refl
used-computed t test (Some (AccessIndex base index)) so = inr refl
used-computed true test _ so = absurd (let e : false ≡ true = so in cc)
used-computed false test _ so = absurd (let e : false ≡ true = so in cc)

-- a statement that emits expressions evaluates them so
emitted-way : (P : Evaluation → List ℕ → Type 0) → ((way : Evaluation) → P way []) → (what : Statement) → P (evaluation_by what) (emitted_by what) → P by_way.Emit (emitted_by what)
emitted-way P none (Emit range) h = h
emitted-way P none _ h = none by_way.Emit

-- a statement that only evaluates has no result
no-result : {Thing : Type 0} (look : Reference → Thing) (what : Statement) → action_of look what ≡ None → result_of what ≡ None
no-result look (Emit range) is = refl
no-result look _ is = absurd (cc)

-- a statement with a result does not emit
result-way : (what : Statement) (r : ℕ) → result_of what ≡ Some r → (evaluation_by what ≡ by_way.Ready → ⊥) × (evaluation_by what ≡ by_way.Emit → ⊥)
result-way (Emit range) r is = absurd (cc)
result-way _ r is = ((λ way. cc), (λ way. cc))

-- what a statement evaluates, with its result in front
result-first : (emitted result known : List ℕ) → Includes (result ++ (emitted ++ known)) ((emitted ++ result) ++ known)
result-first emitted result known =
    Includes-both (emitted ++ result) known
    (Includes-both emitted result (Includes-right result (emitted ++ known) (Includes-left emitted known Includes-itself)) (Includes-left result (emitted ++ known) Includes-itself))
    (Includes-right result (emitted ++ known) (Includes-right emitted known Includes-itself))

module _ {Thing Value State : Type 0} (look : Reference → Thing) (by : Meanings Thing Value State) (has_type : Value → Form → Type 0) (whole : the_module.Module) (inside : function.Function)
    (Accepts : Expression → Type 0) (chosen : ℕ → Bool) (checked : IsChecked whole Accepts chosen inside)
    (Invariant : State → Type 0) (respects : RespectsTypesIn look by has_type whole inside Accepts Invariant) where
  abbrev arena : List (Expression × Span)
  arena = inside.expressions

  abbrev ctx : Context
  ctx = context_in whole inside

  abbrev known : ℕ → Option TypeResolution
  known = types_in whole inside

  abbrev signature : Signature
  signature = signature_in whole inside

  abbrev at_use : ℕ → Bool
  at_use = constant_chains_in chosen arena

  abbrev c : Code (Option (ExpressionForm × List (Option Thing)))
  c = code_of look at_use arena

  abbrev ex : Expressions
  ex = emitted_in chosen arena

  abbrev M : Machine (World Value State)
  M = machine_of look by has_type ctx known signature Invariant at_use arena

  abbrev Typed : ℕ → Value → Type 0
  Typed = HasTypeOf has_type ctx known

  abbrev Used : World Value State → ℕ → Type 0
  Used = IsUsed look by has_type ctx known signature Invariant at_use arena

  abbrev Holds : List ℕ → World Value State → Type 0
  Holds = WorldHasTypes look by has_type ctx known signature Invariant at_use arena

  closed : IsClosedReading at_use arena
  closed = constant_chains_in-closed chosen arena checked.precede

  read : ReadsOperands c ex
  read = closed-read look by at_use arena checked.precede closed

  -- ---- what is computed

  loaded : (pointer : ℕ) → Accepts (Load pointer) → (ty : TypeResolution) → type_of ctx known (Load pointer) ≡ Some ty →
      (values : List Value) → HaveTypesOf has_type ctx known (pointer ∷ []) values → (state : State) → Invariant state → HasType has_type ctx (applied look by (Load pointer) values state) ty
  loaded pointer accepts ty is [] h state holds = absurd h
  loaded pointer accepts ty is (v ∷ []) h state holds = respects.loads pointer accepts ty is v h.0 state holds
  loaded pointer accepts ty is (v ∷ other ∷ rest) h state holds = absurd h.1

  -- an expression that is computed gives a value of its type
  gives : (e : Expression) → IsComputed e → Accepts e → (ty : TypeResolution) → type_of ctx known e ≡ Some ty →
      (values : List Value) → HaveTypesOf has_type ctx known (operands_of e) values → (state : State) → Invariant state → HasType has_type ctx (applied look by e values state) ty
  gives e way = elim (load-or-operator e) [
    | inl load ↦
        subst (λ e. Accepts e → (ty : TypeResolution) → type_of ctx known e ≡ Some ty → (values : List Value) → HaveTypesOf has_type ctx known (operands_of e) values →
        (state : State) → Invariant state → HasType has_type ctx (applied look by e values state) ty)
        (sym load.1) (loaded load.0)
    | inr operator ↦ respects.operators e (operator way)
  ]

  computed : (x : ℕ) (e : Expression) → value_at arena x ≡ Some e → IsComputed e → (values : List Value) → HaveTypesOf has_type ctx known (operands_found (value_at arena x)) values →
      (state : State) → Invariant state → Typed x (by.compute (c.shape x) values state)
  computed x e is way values typed state holds =
      let found = type-found whole inside checked.typed.0 checked.precede x e is in
      let v : HasType has_type ctx (applied look by e values state) found.0 =
      gives e way (checked.accepted x e is) found.0 found.2 values (subst (λ o. HaveTypesOf has_type ctx known (operands_found o) values) is typed) state holds
      in
      (found.0, found.1, subst (λ o. HasType has_type ctx (by.compute (option_map (shape_of look) o) values state) found.0) (sym is) v)

  each-typed : (f : ℕ → Value) (xs : List ℕ) → Each (λ y. Typed y (f y)) xs → HaveTypesOf has_type ctx known xs (map f xs)
  each-typed f [] h = tt
  each-typed f (x ∷ xs) h = (h.0, each-typed f xs h.1)

  -- ---- what is evaluated where it is used

  at_use-computed : (x : ℕ) → at_use x ≡ true → IsComputedIn (value_at arena x)
  at_use-computed x so =
      used-computed (chosen x) (reaches_ready (λ y. ready_in (value_at arena y)) (chosen_base chosen arena) x) (value_at arena x) so

  module _ (w : World Value State) (holds : Invariant w.state) where
    within-step : (k x : ℕ) → ((y : ℕ) → y < x → at_use y ≡ true → Typed y (value_within by c k w y)) → at_use x ≡ true → Typed x (value_within by c (suc k) w x)
    within-step k x before so =
        subst (Typed x) (sym (λ i. if so i then by.compute (c.shape x) (map (value_within by c k w) (c.operands x)) w.state else w.values x)) (go (value_at arena x) refl (at_use-computed x so))
      where
        each : Each (λ y. Typed y (value_within by c k w y)) (c.operands x)
        each =
            each-weaker (λ y. (y < x) × (at_use y ≡ true)) (λ y. Typed y (value_within by c k w y)) (λ y both. before y both.0 both.1) (c.operands x)
            (each-both (λ y. y < x) (λ y. at_use y ≡ true) (c.operands x) (operands-before arena checked.precede x) (closed.operands x so))

        go : (found : Option Expression) → value_at arena x ≡ found → IsComputedIn found → Typed x (by.compute (c.shape x) (map (value_within by c k w) (c.operands x)) w.state)
        go None is way = absurd way
        go (Some e) is way = computed x e is way (map (value_within by c k w) (c.operands x)) (each-typed (value_within by c k w) (c.operands x) each) w.state holds

    within-typed : (k x : ℕ) → x < k → at_use x ≡ true → Typed x (value_within by c k w x)
    within-typed zero x less so = absurd (omega (arith, less))
    within-typed (suc k) x less so = within-step k x (λ y before is. within-typed k y (omega (arith, less, before)) is) so

    at_use-typed : (x : ℕ) → at_use x ≡ true → Used w x
    at_use-typed x so = within-typed (suc x) x (omega arith) so

  holds-by : (evaluated : List ℕ) (w : World Value State) → Invariant w.state → ((x : ℕ) → Contains evaluated x → Typed x (w.values x)) → Holds evaluated w
  holds-by evaluated w state stored = record { state = state; stored = stored; used = at_use-typed w state }

  fewer : {more some : List ℕ} {w : World Value State} → Includes more some → Holds more w → Holds some w
  fewer {w = w} h s = holds-by _ w s.state (λ x d. s.stored x (h.each x d))

  -- ---- what is used

  module _ (evaluated : List ℕ) (w : World Value State) (holds : Holds evaluated w) where
    used : (x : ℕ) → MayUse ex evaluated x → Used w x
    used x may = elim (cases_Bool (at_use x)) [
      | inl so ↦ holds.used x so
      | inr not ↦
          subst (Typed x) (sym (λ i. if not i then by.compute (c.shape x) (map (value_within by c x w) (c.operands x)) w.state else w.values x))
          (holds.stored x (read.itself evaluated x not may))
    ]

    each-used : (xs : List ℕ) → MayUseEach ex evaluated xs → Each (Used w) xs
    each-used xs may = each-weaker (MayUse ex evaluated) (Used w) used xs (each-of_all (MayUse ex evaluated) xs may)

    emitted : (x : ℕ) → ex.evaluation x ≡ Some by_way.Emit → MayUseEach ex evaluated (ex.operands x) → Typed x (emitted_value by c w x)
    emitted x is may = go (value_at arena x) refl is
      where
        go : (found : Option Expression) → value_at arena x ≡ found → option_map evaluation_of found ≡ Some by_way.Emit → Typed x (emitted_value by c w x)
        go None at way = absurd (cc)
        go (Some e) at way =
            computed x e at (inr (let same : evaluation_of e ≡ by_way.Emit = cc in same)) (map (value by c w) (c.operands x))
            (each-typed (value by c w) (c.operands x) (each-used (c.operands x) may)) w.state holds.state

  put-holds : (x : ℕ) (v : Value) (evaluated : List ℕ) (w : World Value State) → Holds evaluated w → Typed x v → Holds (x ∷ evaluated) (put x v w)
  put-holds x v evaluated w h typed = holds-by (x ∷ evaluated) (put x v w) h.state stored
    where
      stored : (y : ℕ) → Contains (x ∷ evaluated) y → Typed y ((put x v w).values y)
      stored y d = elim (eq-either y x) [
        | yes e ↦ subst (Typed y) (sym (ap (λ t. if t then v else w.values y) (eq-yes y x e))) (subst (λ z. Typed z v) (sym e) typed)
        | no other ↦
            let old : Contains evaluated y = elim (Contains-append_cases (x ∷ []) evaluated y d) [ inl here ↦ absurd (other (sym (Contains-one x y here))) | inr there ↦ there ] in
            subst (Typed y) (sym (ap (λ t. if t then v else w.values y) (eq-no y x other))) (h.stored y old)
      ]

  emit-holds : (xs evaluated : List ℕ) (w : World Value State) → OperandsAreKnown ex evaluated xs → AreEvaluatedBy ex by_way.Emit xs → Holds evaluated w → Holds (xs ++ evaluated) (emit by c xs w)
  emit-holds [] evaluated w k ways h = h
  emit-holds (x ∷ xs) evaluated w k ways h =
      fewer (Includes-shifted (x ∷ []) xs evaluated)
      (emit-holds xs (x ∷ evaluated) (put x (emitted_value by c w x) w) k.1 (All-tail (λ y. ex.evaluation y ≡ Some by_way.Emit) x xs ways)
      (put-holds x (emitted_value by c w x) evaluated w h (emitted evaluated w h x (All-head (λ y. ex.evaluation y ≡ Some by_way.Emit) x xs ways) k.0)))

  -- the operands of an expression are used after those before it were evaluated
  emit-operands : (first rest : List ℕ) (x : ℕ) (evaluated : List ℕ) (w : World Value State) → OperandsAreKnown ex evaluated (first ++ x ∷ rest) →
      AreEvaluatedBy ex by_way.Emit (first ++ x ∷ rest) → Holds evaluated w → Each (Used (emit by c first w)) (ex.operands x)
  emit-operands [] rest x evaluated w k ways h = each-used evaluated w h (ex.operands x) k.0
  emit-operands (y ∷ first) rest x evaluated w k ways h =
      emit-operands first rest x (y ∷ evaluated) (put y (emitted_value by c w y) w) k.1 (All-tail (λ z. ex.evaluation z ≡ Some by_way.Emit) y (first ++ x ∷ rest) ways)
      (put-holds y (emitted_value by c w y) evaluated w h (emitted evaluated w h y (All-head (λ z. ex.evaluation z ≡ Some by_way.Emit) y (first ++ x ∷ rest) ways) k.0))

  -- ---- statements

  acted-holds : (what : Statement) (action : Option (StatementForm × List (Option Thing))) → action_of look what ≡ action → (evaluated : List ℕ) (w : World Value State) → Holds evaluated w →
      ((some : StatementForm × List (Option Thing)) → action ≡ Some some → IsPerformed look has_type ctx known signature what some (map (value by c w) (used_by what))) →
      ((r : ℕ) → result_of what ≡ Some r → ex.evaluation r ≡ Some (evaluation_by what)) →
      Holds (option_to_list (result_of what) ++ evaluated) (acted by c action (used_by what) (result_of what) w)
  acted-holds what None is evaluated w h performed way = subst (λ r. Holds (option_to_list r ++ evaluated) w) (sym (no-result look what is)) h
  acted-holds what (Some action) is evaluated w h performed way = go (result_of what) refl
    where
      done : State × Value
      done = by.perform action (map (value by c w) (used_by what)) w.state

      moved : Holds evaluated (record w { state = done.0 })
      moved = holds-by evaluated (record w { state = done.0 }) (respects.states what action (map (value by c w) (used_by what)) (performed action refl) w.state h.state) h.stored

      given : (r : ℕ) → result_of what ≡ Some r → (found : Option Expression) → value_at arena r ≡ found → option_map evaluation_of found ≡ Some (evaluation_by what) → Typed r done.1
      given r named None at how = absurd (cc)
      given r named (Some e) at how =
          let found = type-found whole inside checked.typed.0 checked.precede r e at in
          let same : evaluation_of e ≡ evaluation_by what = cc in
          (found.0, found.1, respects.results what action (map (value by c w) (used_by what)) (performed action refl) w.state h.state r named e same found.0 found.1 found.2)

      go : (some : Option ℕ) → result_of what ≡ some → Holds (option_to_list some ++ evaluated) (put_result some done.1 (record w { state = done.0 }))
      go None named = moved
      go (Some r) named = put-holds r done.1 evaluated (record w { state = done.0 }) moved (given r named (value_at arena r) refl (way r named))

  module _ (what : Statement) (evaluated : List ℕ) (w : World Value State) (k : PlainUsesKnown ex evaluated what) (h : Holds evaluated w) where
    abbrev emitting : World Value State
    emitting = emit by c (emitted_by what) w

    by-emit : AreEvaluatedBy ex by_way.Emit (emitted_by what)
    by-emit =
        emitted-way (AreEvaluatedBy ex) (λ way. All-nil (λ y. ex.evaluation y ≡ Some way)) what
        (All-both (λ y. ex.evaluation y ≡ Some (evaluation_by what)) (emitted_by what) (option_to_list (result_of what)) k.evaluated).0

    after-emits : Holds (emitted_by what ++ evaluated) emitting
    after-emits = emit-holds (emitted_by what) evaluated w k.operands by-emit h

    operands-typed : (first rest : List ℕ) (x : ℕ) → emitted_by what ≡ first ++ x ∷ rest → Each (Used (emit by c first w)) (ex.operands x)
    operands-typed first rest x is =
        emit-operands first rest x evaluated w (subst (OperandsAreKnown ex evaluated) is k.operands) (subst (AreEvaluatedBy ex by_way.Emit) is by-emit) h

    uses-typed : Each (Used emitting) (used_by what)
    uses-typed = each-used (emitted_by what ++ evaluated) emitting after-emits (used_by what) (MayUseEach-more ex (Includes-right (emitted_by what) evaluated Includes-itself) (used_by what) k.used)

    performs-holds : All (Fits ctx known signature) (required what) → UsesOthers what → Holds (evaluated_by what ++ evaluated) (M.perform what w)
    performs-holds fits others =
        fewer (result-first (emitted_by what) (option_to_list (result_of what)) evaluated)
        (acted-holds what (action_of look what) refl (emitted_by what ++ evaluated) emitting after-emits
        (λ some is. record { acts = is; fits = fits; typed = each-typed (value by c emitting) (used_by what) uses-typed; others = others }) result-evaluated)
      where
        result-evaluated : (r : ℕ) → result_of what ≡ Some r → ex.evaluation r ≡ Some (evaluation_by what)
        result-evaluated r is =
            All-contains (λ y. ex.evaluation y ≡ Some (evaluation_by what)) (evaluated_by what) r k.evaluated
            (Contains-append_right (emitted_by what) (option_to_list (result_of what)) r (subst (λ found. Contains (option_to_list found) r) (sym is) (Contains-push [] r)))

  -- ---- events

  abbrev EventsTyped : List Event → Type 0
  EventsTyped = AllByRecursion (EventIsTyped ctx known signature)

  abbrev EventsUseOthers : List Event → Type 0
  EventsUseOthers = AllByRecursion MetUsesOthers

  worlds-hold : (before later : List Event) (evaluated : List ℕ) (w : World Value State) → EventsUseKnown ex evaluated (before ++ later) → EventsTyped (before ++ later) → EventsUseOthers (before ++ later) →
      Holds evaluated w → Holds (evaluated_in before ++ evaluated) (after M before w)
  worlds-hold [] later evaluated w k typed others h = h
  worlds-hold (met what ∷ before) later evaluated w k typed others h =
      fewer (Includes-shifted (evaluated_by what) (evaluated_in before) evaluated)
      (worlds-hold before later (evaluated_by what ++ evaluated) (M.perform what w) k.1 typed.1 others.1 (performs-holds what evaluated w k.0 h typed.0 others.0))
  worlds-hold (branched x ∷ before) later evaluated w k typed others h = worlds-hold before later evaluated w k.1 typed.1 others.1 h
  worlds-hold (selected x vs ∷ before) later evaluated w k typed others h = worlds-hold before later evaluated w k.1 typed.1 others.1 h
  worlds-hold (returned x ∷ before) later evaluated w k typed others h = worlds-hold before later evaluated w k.1 typed.1 others.1 h

  event-typed : (event : Event) (evaluated : List ℕ) (w : World Value State) → EventUsesKnown ex evaluated event → EventIsTyped ctx known signature event → Holds evaluated w →
      EventHasTypes look by has_type ctx known signature Invariant at_use arena event w
  event-typed (met what) evaluated w k typed h = uses-typed what evaluated w k h
  event-typed (branched x) evaluated w k typed h =
      let v : Used w x = used evaluated w h x k in
      (v, HasTypeOf-known has_type ctx known signature x (value by c w x) (sized_type None BOOL) v typed)
  event-typed (selected x vs) evaluated w k typed h =
      let v : Used w x = used evaluated w h x k in
      (v, typed.0, typed.2, HasTypeOf-known has_type ctx known signature x (value by c w x) (sized_type None typed.0) v typed.1)
  event-typed (returned x) evaluated w k typed h = used evaluated w h x k

  returned-as : (x : ℕ) (v : Value) → Typed x v → EventIsTyped ctx known signature (returned x) → IsReturnedAs has_type ctx signature.result (Some v)
  returned-as x v typed returns = go signature.result refl
    where
      wants : (ty : TypeResolution) × (option_map handle signature.result ≡ Some ty) × requires.Has ctx known signature x ty
      wants = All-head (Fits ctx known signature) _ [] returns

      go : (declared : Option ℕ) → signature.result ≡ declared → (ty : ℕ) × (declared ≡ Some ty) × HasType has_type ctx v (handle ty)
      go None is = absurd (none-some wants.0 (sym (ap (option_map handle) is) ∙ wants.1))
      go (Some ty) is =
          let inner : Some (handle ty) ≡ Some wants.0 = sym (ap (option_map handle) is) ∙ wants.1 in
          let same : handle ty ≡ wants.0 = cc in
          (ty, refl, subst (HasType has_type ctx v) (sym same) (HasTypeOf-known has_type ctx known signature x v wants.0 typed wants.2))

  -- ---- bodies

  module _ (turns : ℕ) (start : World Value State) (state : Invariant start.state) where
    abbrev body : Tree
    body = tree_of inside.body

    begin : Holds [] start
    begin = holds-by [] start state (λ x d. absurd (omega (arith, d.1)))

    -- the result of a statement is not evaluated where it is used
    result-itself : (evaluated : List ℕ) (what : Statement) (r : ℕ) → PlainUsesKnown ex evaluated what → result_of what ≡ Some r → MayUse ex evaluated r → Contains evaluated r
    result-itself evaluated what r k is may = elim (cases_Bool (at_use r)) [
      | inl so ↦ absurd (go (value_at arena r) refl (at_use-computed r so))
      | inr not ↦ read.itself evaluated r not may
    ]
      where
        how : ex.evaluation r ≡ Some (evaluation_by what)
        how =
            All-contains (λ y. ex.evaluation y ≡ Some (evaluation_by what)) (evaluated_by what) r k.evaluated
            (Contains-append_right (emitted_by what) (option_to_list (result_of what)) r (subst (λ found. Contains (option_to_list found) r) (sym is) (Contains-push [] r)))

        go : (found : Option Expression) → value_at arena r ≡ found → IsComputedIn found → ⊥
        go None at way = way
        go (Some e) at way =
            let some : Some (evaluation_of e) ≡ Some (evaluation_by what) = sym (ap (option_map evaluation_of) at) ∙ how in
            let same : evaluation_of e ≡ evaluation_by what = cc in
            elim way [ inl ready ↦ (result-way what r is).0 (sym same ∙ ready) | inr emit ↦ (result-way what r is).1 (sym same ∙ emit) ]

    module _ (begun : IsABeginning M turns body start (does M turns body start)) where
      abbrev all : List Event
      all = begun.happened ++ begun.later

      known-there : EventsUseKnown ex [] all
      known-there = subst (EventsUseKnown ex []) begun.fits.1 (BlockRuns-uses ex [] [] begun.fits.0 Includes-itself checked.passes.0)

      typed-there : EventsTyped all
      typed-there = subst EventsTyped begun.fits.1 (block-typed ctx known signature begun.fits.0 checked.typed.1)

      others-there : EventsUseOthers all
      others-there = subst EventsUseOthers begun.fits.1 (block-others ex result-itself [] [] begun.fits.0 Includes-itself checked.passes.0 checked.passes.1)

      divided : (before later : List Event) → begun.happened ≡ before ++ later → all ≡ before ++ (later ++ begun.later)
      divided before later is = ap (λ happened. happened ++ begun.later) is ∙ append_assoc before later begun.later

      world-holds : (before later : List Event) → begun.happened ≡ before ++ later → Holds (evaluated_in before) (after M before start)
      world-holds before later is =
          let at = divided before later is in
          fewer (Includes-left (evaluated_in before) [] Includes-itself)
          (worlds-hold before (later ++ begun.later) [] start (subst (EventsUseKnown ex []) at known-there) (subst EventsTyped at typed-there) (subst EventsUseOthers at others-there) begin)

      event-holds : (before later : List Event) (event : Event) → begun.happened ≡ before ++ event ∷ later → EventHasTypes look by has_type ctx known signature Invariant at_use arena event (after M before start)
      event-holds before later event is =
          let at : all ≡ before ++ event ∷ (later ++ begun.later) = divided before (event ∷ later) is in
          event-typed event (evaluated_in before) (after M before start) (EventsUseKnown-each ex all known-there before (later ++ begun.later) event at)
          (at-split (EventIsTyped ctx known signature) before event (later ++ begun.later) (subst EventsTyped at typed-there))
          (world-holds before (event ∷ later) is)

      operands-hold : (before later : List Event) (what : Statement) → begun.happened ≡ before ++ met what ∷ later →
          (first rest : List ℕ) (x : ℕ) → emitted_by what ≡ first ++ x ∷ rest → Each (Used (emit by c first (after M before start))) (ex.operands x)
      operands-hold before later what is =
          let at : all ≡ before ++ met what ∷ (later ++ begun.later) = divided before (met what ∷ later) is in
          operands-typed what (evaluated_in before) (after M before start) (EventsUseKnown-each ex all known-there before (later ++ begun.later) (met what) at)
          (world-holds before (met what ∷ later) is)

      -- ---- the outcome

      abbrev left : Done (World Value State)
      left = does M turns body start

      ends : Holds (evaluated_in begun.happened) left.state
      ends = subst (Holds (evaluated_in begun.happened)) (sym begun.state) (world-holds begun.happened [] (sym (append-nil begun.happened)))

      no-return : (x : ℕ) (how : Stop) → Return (Some x) ≡ ending_after (Some how) → ⊥
      no-return x killed is = cc
      no-return x cut_off is = cc

      returned-in : (x : ℕ) → left.ending ≡ Return (Some x) → IsReturnedIn begun.happened x
      returned-in x is = elim begun.ended [
        | inl whole_run ↦
            subst (λ happened. IsReturnedIn happened x) (begun.fits.1 ∙ ap (λ later. begun.happened ++ later) whole_run.0 ∙ append-nil begun.happened)
            (block-returned begun.fits.0 (sym whole_run.1.ending ∙ is))
        | inr last ↦ absurd (no-return x last.how (sym is ∙ last.ending))
      ]

      returns : (x : ℕ) → left.ending ≡ Return (Some x) → IsReturnedAs has_type ctx signature.result (Some (value by c left.state x))
      returns x is =
          let r = returned-in x is in
          let at : all ≡ r.0 ++ returned x ∷ (r.1 ++ begun.later) = divided r.0 (returned x ∷ r.1) r.2 in
          let may : MayUse ex (evaluated_in r.0) x = EventsUseKnown-each ex all known-there r.0 (r.1 ++ begun.later) (returned x) at in
          let more : Includes (evaluated_in begun.happened) (evaluated_in r.0) =
          subst (λ xs. Includes xs (evaluated_in r.0)) (sym (ap evaluated_in r.2 ∙ evaluated_in-append r.0 (returned x ∷ r.1))) (Includes-left (evaluated_in r.0) (evaluated_in (returned x ∷ r.1)) Includes-itself)
          in
          returned-as x (value by c left.state x) (used (evaluated_in begun.happened) left.state ends x (MayUse-more ex more x may))
          (at-split (EventIsTyped ctx known signature) r.0 (returned x) (r.1 ++ begun.later) (subst EventsTyped at typed-there))

      outcome-types : OutcomeHasTypes has_type ctx signature Invariant (outcome (parts look) by c turns body start)
      outcome-types = record { state = ends.state; returned = go left.ending refl }
        where
          go : (e : Ending) → left.ending ≡ e → IsReturnedAs has_type ctx signature.result (option_map (value by c left.state) (result_of_ending e))
          go (Return (Some x)) is = returns x is
          go (Return None) is = tt
          go _ is = tt

    pub execution-types : ExecutionHasTypes look by has_type ctx known signature Invariant at_use arena turns body start
    execution-types = record { worlds = world-holds; events = event-holds; operands = operands-hold; outcome = outcome-types (does-IsABeginning M turns body start) }
