-- Expressions that are steady may be evaluated where they are used, in place of at their `Emit`.
use Rattle.std.proofs.Common.{◌≡◌, ◌∙◌, sym, ap, subst, refl, inl, inr, ℕ, zero, suc, ◌<◌, Bool, true, List, [], ◌∷◌, ◌++◌, map, Option, Some, None, option_to_list, arith}
use Rattle.std.proofs.lemmas.Bool.{cases_Bool}
use Rattle.std.proofs.lemmas.List.Elements.{All-head, Contains-append_cases}
use Rattle.std.specs.List.{Contains}
use Rattle.std.specs.Prelude.{⊤, ◌||◌, if◌then◌else◌, option_map}
use Rattle.naga_arena.specs.declared.span.Span.{Span}
use Rattle.naga_ir.specs.Tree.{Tree, empty, push, Node, plain, nested, branch, switch, loop, jump, break, continue, kill, return, Cases, no_cases, case}
use Rattle.naga_ir.specs.declared.expression.Expression.{Expression}
use Rattle.naga_ir.specs.declared.statement.Statement.{Statement}
use Rattle.naga_runs.specs.declared.run.Ending.{Ending}
use Rattle.naga_runs.specs.declared.run.Ending.TheVariants.{Return}
use Rattle.naga_valid.specs.declared.reference.Reference.{Reference}
use Rattle.naga_flow.specs.Results.{emitted_by, evaluated_by, result_of, used_by}
use Rattle.naga_flow.specs.Scopes.{AreNew}
use Rattle.naga_flow.specs.Tracking.{Includes}
use Rattle.naga_flow.specs.Uses.{where_reached, Expressions, expressions_in, MayUse, MayUseEach, OperandsAreKnown, PlainUsesKnown, UsesKnown, NodeUsesKnown, CasesUseKnown, certain, values_of}
use Rattle.naga_flow.specs.declared.evaluation.Evaluation.TheVariants as by_way
use Rattle.naga_flow.proofs.IncludesLemmas.{Contains-one, Includes-itself, Includes-right, Includes-shifted}
use Rattle.naga_flow.proofs.UsesKnownLemmas.{MayUseEach-more}
use Rattle.naga_compact.specs.Mapping.Runs.{map_ending}
use Rattle.naga_compact.specs.Operands.{OperandsPrecede}
use Rattle.naga_meaning.specs.Forms.{ExpressionForm, StatementForm}
use Rattle.naga_meaning.specs.Functions.{Meanings, code_of, parts}
use Rattle.naga_wgsl.specs.Inlining.{MayInline, with_inline}
use Rattle.naga_meaning.specs.Machine.{Machine, IfAny, does}
use Rattle.naga_meaning.specs.Renaming.{Each}
use Rattle.naga_meaning.specs.InScope.{InScope, NodeInScope, CasesInScope}
use Rattle.naga_meaning.specs.Values.{Code, World, put, put_result, value, value_within, emitted_value, emit, acted, machine, outcome, result_of_ending, stopped}
use Rattle.naga_meaning.proofs.AgreeOnLemmas.{outcome-agrees}
use Rattle.naga_meaning.proofs.EachLemmas.{each-both, each-of_all, map-each, operands-before}
use Rattle.naga_wgsl.proofs.NamedInLemmas as scopes
use Rattle.naga_meaning.proofs.InScopeLemmas.{Returned, does-left}
use Rattle.naga_meaning.proofs.ReadsOperandsLemmas.{Keeps, ReadsOperands, operands-decide, values-kept}
use Rattle.naga_meaning.proofs.RedirectsLemmas.{new-first, new-last, put-here, put-known}
use Rattle.naga_meaning.proofs.RenamesCodeLemmas.{eq-either}
use Rattle.naga_meaning.proofs.SimulatesLemmas.{ending-same, tree_again, tree-same}

module _ {Thing Value State : Type 0} (look : Reference → Thing) (by : Meanings Thing Value State) (at_use inline : ℕ → Bool) (arena : List (Expression × Span))
    (precede : OperandsPrecede arena) (reads : ℕ → List ℕ) (read : ReadsOperands (code_of look at_use arena) (record (expressions_in arena) { reads = reads }))
    (may : MayInline by (expressions_in arena) inline (code_of look at_use arena)) where
  abbrev code : Code (Option (ExpressionForm × List (Option Thing)))
  code = code_of look at_use arena

  abbrev code' : Code (Option (ExpressionForm × List (Option Thing)))
  code' = code_of look (with_inline at_use inline) arena

  abbrev ex : Expressions
  ex = record (expressions_in arena) { reads = reads }

  before : (x : ℕ) → Each (λ y. y < x) (code.operands x)
  before x = operands-before arena precede x

  -- ---- what is up to date

  -- each known inline expression has the value that it would have if it were evaluated now
  abbrev UpToDate : List ℕ → World Value State → Type 0
  UpToDate known w = (x : ℕ) → Contains known x → inline x ≡ true → w.values x ≡ emitted_value by code w x

  emits : (x : ℕ) → inline x ≡ true → ex.evaluation x ≡ Some by_way.Emit
  emits = may.emitted

  -- the operands of each known inline expression may be used
  abbrev Closed : List ℕ → Type 0
  Closed = scopes.Closed ex inline emits

  -- what is steady has the same value in the second state
  record LaterThan (s t : State) : Type 0 where
    when_inline : (x : ℕ) → inline x ≡ true → (values : List Value) → by.compute (code.shape x) values t ≡ by.compute (code.shape x) values s
    when_at_use : (x : ℕ) → at_use x ≡ true → (values : List Value) → by.compute (code.shape x) values t ≡ by.compute (code.shape x) values s

  unchanged : (s : State) → LaterThan s s
  unchanged s = record { when_inline = λ x is values. refl; when_at_use = λ x is values. refl }

  performed : (action : StatementForm × List (Option Thing)) (used : List Value) (s : State) → LaterThan s (by.perform action used s).0
  performed action used s = record { when_inline = λ x is values. may.steady x is values action used s; when_at_use = λ x is values. may.steady_before x is values action used s }

  up_to_date-kept : (known : List ℕ) (a b : World Value State) → LaterThan a.state b.state → ((x : ℕ) → Contains known x → b.values x ≡ a.values x) → Closed known → UpToDate known a → UpToDate known b
  up_to_date-kept known a b later same closed up x c e =
      let keeps : Keeps by code ex read (λ y is. before y) known a b = record { computes = λ y is values. later.when_at_use y is values; values = same } in
      same x c ∙ up x c e ∙ sym (later.when_inline x e (map (value by code a) (code.operands x)))
      ∙ sym (λ i. by.compute (code.shape x) (values-kept by code ex read (λ y is. before y) known a b keeps (code.operands x) (closed x c e) i) b.state)

  up_to_date-fewer : (more fewer : List ℕ) → Includes more fewer → (w : World Value State) → UpToDate more w → UpToDate fewer w
  up_to_date-fewer more fewer h w up x c e = up x (h.each x c) e

  -- an expression that is not known is evaluated
  up_to_date-added : (known : List ℕ) (x : ℕ) (w : World Value State) → Closed known → MayUseEach ex known (code.operands x) → ¬ Contains known x → UpToDate known w →
      UpToDate (x ∷ known) (put x (emitted_value by code w x) w)
  up_to_date-added known x w closed so fresh up y c e = elim (eq-either y x) [
    | yes is ↦
        put-here x y (emitted_value by code w x) w is ∙ sym (λ i. by.compute (code.shape x) (after i) w.state) ∙ sym (ap (emitted_value by code (put x (emitted_value by code w x) w)) is)
    | no other ↦
        let old_one : Contains known y = elim (Contains-append_cases (x ∷ []) known y c) [ inl here ↦ absurd (other (sym (Contains-one x y here))) | inr there ↦ there ] in
        up_to_date-kept known w (put x (emitted_value by code w x) w) (unchanged w.state) (λ z c'. put-known known x z (emitted_value by code w x) w fresh c') closed up y old_one e
  ]
    where
      keeps : Keeps by code ex read (λ z is. before z) known w (put x (emitted_value by code w x) w)
      keeps = record { computes = λ z is values. refl; values = λ z c'. put-known known x z (emitted_value by code w x) w fresh c' }

      after : map (value by code (put x (emitted_value by code w x) w)) (code.operands x) ≡ map (value by code w) (code.operands x)
      after = values-kept by code ex read (λ z is. before z) known w (put x (emitted_value by code w x) w) keeps (code.operands x) so

  -- ---- uses

  module _ (known : List ℕ) (w : World Value State) (closed : Closed known) (up : UpToDate known w) where
    abbrev Fine : ℕ → ℕ → Type 0
    Fine x y = (y < x) × MayUse ex known y

    fine : (x : ℕ) → MayUseEach ex known (code.operands x) → Each (Fine x) (code.operands x)
    fine x so = each-both (λ y. y < x) (MayUse ex known) (code.operands x) (before x) (each-of_all (MayUse ex known) (code.operands x) so)

    within-inlined : (k l x : ℕ) → x < k → x < l → MayUse ex known x → value_within by code' k w x ≡ value_within by code l w x
    within-inlined zero l x less less' so = absurd (omega (arith, less))
    within-inlined (suc k) zero x less less' so = absurd (omega (arith, less'))
    within-inlined (suc k) (suc l) x less less' so = elim (cases_Bool (at_use x)) [
      | inl is ↦
          (λ i. if is i || inline x then by.compute (code.shape x) (map (value_within by code' k w) (code.operands x)) w.state else w.values x)
          ∙ ap (λ values. by.compute (code.shape x) values w.state)
          (map-each (Fine x) (value_within by code l w) (value_within by code' k w)
          (λ y both. within-inlined k l y (let first : y < x = both.0 in omega (arith, less, first)) (let first : y < x = both.0 in omega (arith, less', first)) both.1) (code.operands x) (fine x (read.operands known x is so)))
          ∙ sym (λ i. if is i then by.compute (code.shape x) (map (value_within by code l w) (code.operands x)) w.state else w.values x)
      | inr is ↦ elim (cases_Bool (inline x)) [
        | inl also ↦
            let inside : Contains known x = read.itself known x is so in
            (λ i. if is i || also i then by.compute (code.shape x) (map (value_within by code' k w) (code.operands x)) w.state else w.values x)
            ∙ ap (λ values. by.compute (code.shape x) values w.state)
            (map-each (Fine x) (value by code w) (value_within by code' k w)
            (λ y both. within-inlined k (suc y) y (let first : y < x = both.0 in omega (arith, less, first)) (omega arith) both.1) (code.operands x) (fine x (closed x inside also)))
            ∙ sym (up x inside also)
            ∙ sym (λ i. if is i then by.compute (code.shape x) (map (value_within by code l w) (code.operands x)) w.state else w.values x)
        | inr other ↦
            (λ i. if is i || other i then by.compute (code.shape x) (map (value_within by code' k w) (code.operands x)) w.state else w.values x)
            ∙ sym (λ i. if is i then by.compute (code.shape x) (map (value_within by code l w) (code.operands x)) w.state else w.values x)
      ]
    ]

    value-inlined : (x : ℕ) → MayUse ex known x → value by code' w x ≡ value by code w x
    value-inlined x so = within-inlined (suc x) (suc x) x (omega arith) (omega arith) so

    values-inlined : (xs : List ℕ) → MayUseEach ex known xs → map (value by code' w) xs ≡ map (value by code w) xs
    values-inlined xs so = map-each (MayUse ex known) (value by code w) (value by code' w) value-inlined xs (each-of_all (MayUse ex known) xs so)

    emitted_value-inlined : (x : ℕ) → MayUseEach ex known (code.operands x) → emitted_value by code' w x ≡ emitted_value by code w x
    emitted_value-inlined x so = ap (λ values. by.compute (code.shape x) values w.state) (values-inlined (code.operands x) so)

  -- ---- statements

  emit-inlined : (xs known : List ℕ) (w : World Value State) → Closed known → AreNew known xs → OperandsAreKnown ex known xs → UpToDate known w →
      (emit by code' xs w ≡ emit by code xs w) × UpToDate (xs ++ known) (emit by code xs w)
  emit-inlined [] known w closed fresh so up = (refl, up)
  emit-inlined (x ∷ xs) known w closed fresh so up =
      let same : emitted_value by code' w x ≡ emitted_value by code w x = emitted_value-inlined known w closed up x so.0 in
      let next : World Value State = put x (emitted_value by code w x) w in
      let later = emit-inlined xs (x ∷ known) next (scopes.closed-added ex inline emits known x closed so.0) fresh.1 so.1 (up_to_date-added known x w closed so.0 fresh.0 up) in
      (ap (λ v. emit by code' xs (put x v w)) same ∙ later.0, up_to_date-fewer (xs ++ (x ∷ known)) ((x ∷ xs) ++ known) (Includes-shifted (x ∷ []) xs known) (emit by code xs next) later.1)

  acted-inlined : (action : Option (StatementForm × List (Option Thing))) (uses : List ℕ) (result : Option ℕ) (known : List ℕ) (w : World Value State) → Closed known → UpToDate known w →
      MayUseEach ex known uses → acted by code' action uses result w ≡ acted by code action uses result w
  acted-inlined None uses result known w closed up so = refl
  acted-inlined (Some action) uses result known w closed up so =
      ap (λ values. let after = by.perform action values w.state in put_result result after.1 (record w { state = after.0 })) (values-inlined known w closed up uses so)

  stopped-inlined : (action : Option (StatementForm × List (Option Thing))) (uses known : List ℕ) (w : World Value State) → Closed known → UpToDate known w →
      MayUseEach ex known uses → stopped by code' action uses w ≡ stopped by code action uses w
  stopped-inlined None uses known w closed up so = refl
  stopped-inlined (Some action) uses known w closed up so = ap (λ values. by.stop action values w.state) (values-inlined known w closed up uses so)

  -- the result of a statement is not known before, and not inline
  abbrev IsFresh : List ℕ → Option ℕ → Type 0
  IsFresh known result = (x : ℕ) → result ≡ Some x → (¬ Contains known x) × (¬ (inline x ≡ true))

  acted-up_to_date : (action : Option (StatementForm × List (Option Thing))) (uses : List ℕ) (result : Option ℕ) (known : List ℕ) (w : World Value State) → UpToDate known w → Closed known →
      IsFresh known result → UpToDate (option_to_list result ++ known) (acted by code action uses result w)
  acted-up_to_date None uses None known w up closed fresh = up
  acted-up_to_date None uses (Some x) known w up closed fresh = λ y c e. elim (Contains-append_cases (x ∷ []) known y c) [
    | inl here ↦ absurd ((fresh y (ap Some (Contains-one x y here))).1 e)
    | inr there ↦ up y there e
  ]
  acted-up_to_date (Some action) uses None known w up closed fresh =
      let after = by.perform action (map (value by code w) uses) w.state in
      up_to_date-kept known w (record w { state = after.0 }) (performed action (map (value by code w) uses) w.state) (λ x c. refl) closed up
  acted-up_to_date (Some action) uses (Some x) known w up closed fresh = λ y c e. elim (Contains-append_cases (x ∷ []) known y c) [
    | inl here ↦ absurd ((fresh y (ap Some (Contains-one x y here))).1 e)
    | inr there ↦
        let after = by.perform action (map (value by code w) uses) w.state in
        up_to_date-kept known w (put x after.1 (record w { state = after.0 })) (performed action (map (value by code w) uses) w.state)
        (λ z c'. put-known known x z after.1 (record w { state = after.0 }) (fresh x refl).0 c') closed up y there e
  ]

  -- what is required of a statement where these expressions are known
  record Fits (known : List ℕ) (what : Statement) : Type 0 where
    uses : PlainUsesKnown ex known what
    fresh : AreNew known (evaluated_by what)
    closed : Closed known

  -- what is required of a condition, a selector and a returned value
  abbrev Usable : List ℕ → ℕ → Type 0
  Usable known x = MayUse ex known x × Closed known

  -- the same world, which is up to date
  abbrev SameUpToDate : List ℕ → World Value State → World Value State → Type 0
  SameUpToDate known a b = (b ≡ a) × UpToDate known a

  abbrev M : Machine (World Value State)
  M = machine (parts look) by code

  abbrev M' : Machine (World Value State)
  M' = machine (parts look) by code'

  module _ (known : List ℕ) (what : Statement) (fits : Fits known what) (a b : World Value State) (same : SameUpToDate known a b) where
    abbrev inside : List ℕ
    inside = emitted_by what ++ known

    abbrev w : World Value State
    w = emit by code (emitted_by what) a

    uses : MayUseEach ex inside (used_by what)
    uses = MayUseEach-more ex (Includes-right (emitted_by what) known Includes-itself) (used_by what) fits.uses.used

    closed_inside : Closed inside
    closed_inside = scopes.closed-emitted ex inline emits (emitted_by what) known fits.closed fits.uses.operands

    emitted : (emit by code' (emitted_by what) a ≡ w) × UpToDate inside w
    emitted = emit-inlined (emitted_by what) known a fits.closed (new-first known (emitted_by what) (option_to_list (result_of what)) fits.fresh) fits.uses.operands same.1

    new_result : IsFresh inside (result_of what)
    new_result x is = (
      new-last known (emitted_by what) x (subst (λ t. AreNew known (emitted_by what ++ option_to_list t)) is fits.fresh),
      scopes.not_inline ex inline emits what x fits.uses.evaluated (subst (λ t. Contains (option_to_list t) x) (sym is) (0, omega arith, refl)),
    )

    performs-inlined : SameUpToDate (evaluated_by what ++ known) (M.perform what a) (M'.perform what b)
    performs-inlined = (
      ap (λ v. acted by code' ((parts look).action what) (used_by what) (result_of what) (emit by code' (emitted_by what) v)) same.0
          ∙ ap (acted by code' ((parts look).action what) (used_by what) (result_of what)) emitted.0
          ∙ acted-inlined ((parts look).action what) (used_by what) (result_of what) inside w closed_inside emitted.1 uses,
      up_to_date-fewer (option_to_list (result_of what) ++ inside) (evaluated_by what ++ known) (Includes-shifted (emitted_by what) (option_to_list (result_of what)) known) (M.perform what a)
          (acted-up_to_date ((parts look).action what) (used_by what) (result_of what) inside w emitted.1 closed_inside new_result),
    )

    stops-inlined : M'.stop what b ≡ M.stop what a
    stops-inlined =
        ap (λ v. stopped by code' ((parts look).action what) (used_by what) (emit by code' (emitted_by what) v)) same.0
        ∙ ap (stopped by code' ((parts look).action what) (used_by what)) emitted.0
        ∙ stopped-inlined ((parts look).action what) (used_by what) inside w closed_inside emitted.1 uses

  abbrev News : List ℕ → Statement → Type 0
  News known what = AreNew known (evaluated_by what)

  abbrev AnyKnown : List ℕ → ℕ → Type 0
  AnyKnown known handle = ⊤

  usable-if : (known : List ℕ) (value : Option ℕ) → Closed known → MayUseEach ex known (option_to_list value) → IfAny (Usable known) value
  usable-if known None closed h = tt
  usable-if known (Some x) closed h = (All-head (MayUse ex known) x [] h, closed)

  mutual
    block-fits : (block : Tree) (known : List ℕ) → InScope News AnyKnown known block → UsesKnown ex known block → Closed known → InScope Fits Usable known block
    block-fits empty known fresh h closed = tt
    block-fits (push front last span) known fresh h closed =
        (block-fits front known fresh.0 h.0 closed, node-fits last (values_of front ++ known) fresh.1 h.1 (scopes.block-closed ex inline emits front known h.0 closed))

    node-fits : (node : Node) (known : List ℕ) → NodeInScope News AnyKnown known node → NodeUsesKnown ex known node → Closed known → NodeInScope Fits Usable known node
    node-fits (plain what) known fresh h closed = record { uses = h; fresh = fresh; closed = closed }
    node-fits (nested inner) known fresh h closed = block-fits inner known fresh h closed
    node-fits (branch condition accept reject) known fresh h closed = ((h.0, closed), block-fits accept known fresh.1 h.1 closed, block-fits reject known fresh.2 h.2 closed)
    node-fits (switch selector cases) known fresh h closed = ((h.0, closed), cases-fit cases known fresh.1 h.1 closed)
    node-fits (loop body continuing break_if) known fresh h closed =
        let within : List ℕ = values_of (certain body) ++ known in
        let at_end : List ℕ = values_of (certain continuing) ++ within in
        let closed_within : Closed within = scopes.certain-closed ex inline emits body known h.0 closed in (
          block-fits body known fresh.0 h.0 closed,
          λ reached.
              let continuing_uses : UsesKnown ex within continuing = subst (λ t. UsesKnown (where_reached t ex) within continuing) reached h.1 in (
                block-fits continuing within (fresh.1 reached).0 continuing_uses closed_within,
                usable-if at_end break_if (scopes.certain-closed ex inline emits continuing within continuing_uses closed_within) (subst (λ t. MayUseEach (where_reached t ex) at_end (option_to_list break_if)) reached h.2),
              ),
        )
    node-fits (jump break) known fresh h closed = tt
    node-fits (jump continue) known fresh h closed = tt
    node-fits (jump kill) known fresh h closed = tt
    node-fits (jump (return value)) known fresh h closed = usable-if known value closed h

    cases-fit : (cases : Cases) (known : List ℕ) → CasesInScope News AnyKnown known cases → CasesUseKnown ex known cases → Closed known → CasesInScope Fits Usable known cases
    cases-fit no_cases known fresh h closed = tt
    cases-fit (case value body falls_through others) known fresh h closed = (block-fits body known fresh.0 h.0 closed, cases-fit others known fresh.1 h.1 closed)

  -- ---- outcomes

  abbrev SameValue : ℕ → World Value State → World Value State → Type 0
  SameValue x a b = value by code' b x ≡ value by code a x

  same-value : (known : List ℕ) (x : ℕ) → Usable known x → (a b : World Value State) → SameUpToDate known a b → SameValue x a b
  same-value known x usable a b same = ap (λ v. value by code' v x) same.0 ∙ value-inlined known a usable.1 same.1 x usable.0

  fewer-same : (more less : List ℕ) → Includes more less → (a b : World Value State) → SameUpToDate more a b → SameUpToDate less a b
  fewer-same more less h a b same = (same.0, up_to_date-fewer more less h a same.1)

  returned-inlined : (e : Ending) (a b : World Value State) → Returned SameUpToDate fewer-same (λ x. x) SameValue e a b →
      option_map (value by code' b) (result_of_ending e) ≡ option_map (value by code a) (result_of_ending e)
  returned-inlined (Return (Some x)) a b same = ap Some same
  returned-inlined (Return None) a b same = refl
  returned-inlined _ a b same = refl

  nothing-known : Closed []
  nothing-known x c e = absurd (omega (arith, c.1))

  outcome-same : (body : Tree) → InScope News AnyKnown [] body → UsesKnown ex [] body → (turns : ℕ) (start : World Value State) →
      outcome (parts look) by code' turns body start ≡ outcome (parts look) by code turns body start
  outcome-same body fresh h turns start =
      let left = does M turns body start in
      let left' = does M' turns (tree_again body) start in
      let m =
      does-left SameUpToDate fewer-same (λ x. x) SameValue Fits Usable (λ what. what) M M' performs-inlined stops-inlined
      (λ known x usable a b same. ap by.decide (same-value known x usable a b same))
      (λ known x vs usable a b same. ap (λ v. by.choose v vs) (same-value known x usable a b same)) same-value turns [] body (block-fits body [] fresh h nothing-known) start start
      (refl, λ x c e. absurd (omega (arith, c.1)))
      in
      let ends : left'.ending ≡ left.ending = m.ending ∙ ending-same left.ending in
      ap (λ block. outcome (parts look) by code' turns block start) (sym (tree-same body))
      ∙ (λ i. record {
        state = (m.state.0 i).state;
        ending = map_ending (λ x. 0) (ends i);
        slipped = m.slipped i;
        returned = (ap (λ e. option_map (value by code' left'.state) (result_of_ending e)) ends ∙ returned-inlined left.ending left.state left'.state m.returned) i;
      })

  pub outcome-inlined : (body : Tree) → InScope News AnyKnown [] body → UsesKnown ex [] body → (turns : ℕ) (a b : World Value State) → b.state ≡ a.state →
      outcome (parts look) by code' turns body b ≡ outcome (parts look) by code turns body a
  outcome-inlined body fresh h turns a b same =
      outcome-same body fresh h turns b ∙ outcome-agrees look by at_use arena reads (operands-decide by code ex read (λ x is. before x)) body h turns a b same
