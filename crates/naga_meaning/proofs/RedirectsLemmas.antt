-- Bodies of which uses are redirected to duplicates have the same outcome.
use Rattle.std.proofs.Common.{◌≡◌, ◌∙◌, sym, ap, subst, refl, inl, inr, ℕ, zero, suc, ◌<◌, Bool, true, false, List, [], ◌∷◌, ◌++◌, map, Option, Some, None, option_to_list, arith}
use Rattle.std.proofs.lemmas.Bool.{cases_Bool}
use Rattle.std.proofs.lemmas.List.Elements.{All-contains, All-head, Contains-append_cases, Contains-append_right}
use Rattle.std.specs.List.{Contains}
use Rattle.std.specs.Prelude.{⊤, if◌then◌else◌, option_map}
use Rattle.naga_arena.specs.declared.span.Span.{Span}
use Rattle.naga_ir.specs.Tree.{Tree, empty, push, Node, plain, nested, branch, switch, loop, jump, break, continue, kill, return, Cases, no_cases, case}
use Rattle.naga_ir.specs.declared.expression.Expression.{Expression}
use Rattle.naga_ir.specs.declared.statement.Statement.{Statement, Emit}
use Rattle.naga_runs.specs.declared.run.Ending.{Ending}
use Rattle.naga_runs.specs.declared.run.Ending.TheVariants.{Return}
use Rattle.naga_valid.specs.declared.reference.Reference.{Reference}
use Rattle.naga_flow.specs.Results.{emitted_by, evaluated_by, evaluation_by, result_of, used_by}
use Rattle.naga_flow.specs.Scopes.{AreNew}
use Rattle.naga_flow.specs.Tracking.{AreSame, Includes}
use Rattle.naga_flow.specs.Uses.{AreEvaluatedBy, after_body, where_reached, Expressions, expressions_in, MayUse, MayUseEach, OperandsAreKnown, PlainUsesKnown, UsesKnown, NodeUsesKnown, CasesUseKnown, certain, may_be_skipped, values_of, values_of_node}
use Rattle.naga_flow.specs.Ways.{may_go_on, ways_of, ways_of_node}
use Rattle.naga_flow.specs.declared.evaluation.Evaluation.TheVariants as by_way
use Rattle.naga_flow.proofs.IncludesLemmas.{AreSame-shifted, AreSame-turned, Contains-one, Includes-itself, Includes-right, Includes-shifted}
use Rattle.naga_flow.proofs.UsesKnownLemmas.{MayUseEach-more}
use Rattle.naga_compact.specs.Mapping.{map_tree, map_node, map_cases}
use Rattle.naga_compact.specs.Mapping.Runs.{map_ending}
use Rattle.naga_compact.specs.Operands.{OperandsPrecede}
use Rattle.naga_meaning.proofs.Uses.RenamesLemmas.{map_tree-certain, map_tree-ways}
use Rattle.naga_meaning.specs.Forms.{ExpressionForm, StatementForm}
use Rattle.naga_meaning.specs.Functions.{Meanings, code_of, parts}
use Rattle.naga_meaning.specs.Machine.{Machine, IfAny, IsIn, NodeIsIn, CasesAreIn, does}
use Rattle.naga_meaning.specs.Redirecting.{IsSteady, Redirects, RedirectsStatement}
use Rattle.naga_meaning.specs.Renaming.{Each}
use Rattle.naga_meaning.specs.InScope.{InScope, NodeInScope, CasesInScope}
use Rattle.naga_meaning.specs.Values.{Code, World, put, put_result, value, value_within, emitted_value, emit, acted, machine, outcome, result_of_ending, stopped}
use Rattle.naga_meaning.proofs.AgreeOnLemmas.{outcome-agrees}
use Rattle.naga_meaning.proofs.EachLemmas.{each-both, each-of_all, each-unmapped, map-renamed, operands-before}
use Rattle.naga_meaning.proofs.InScopeLemmas.{Returned, does-left}
use Rattle.naga_meaning.proofs.ReadsOperandsLemmas.{Keeps, ReadsOperands, operands-decide, values-kept}
use Rattle.naga_meaning.proofs.RenamesCodeLemmas.{eq-either, eq-no, eq-yes}

-- ---- what a statement evaluates

-- the result of a statement is not evaluated by an `Emit`
pub no_emitted_result : (what : Statement) (x : ℕ) → result_of what ≡ Some x → evaluation_by what ≡ by_way.Emit → ⊥
no_emitted_result (Emit range) x is h = cc
no_emitted_result _ x is h = cc

pub result-listed : (result : Option ℕ) (x : ℕ) → Contains (option_to_list result) x → result ≡ Some x
result-listed None x c = absurd (omega (arith, c.1))
result-listed (Some y) x c = ap Some (Contains-one y x c)

not_known-fewer : {more fewer : List ℕ} (x : ℕ) → Includes more fewer → ¬ Contains more x → ¬ Contains fewer x
not_known-fewer x h none c = none (h.each x c)

pub new-first : (known emitted rest : List ℕ) → AreNew known (emitted ++ rest) → AreNew known emitted
new-first known [] rest h = tt
new-first known (x ∷ emitted) rest h = (h.0, new-first (x ∷ known) emitted rest h.1)

pub new-last : (known emitted : List ℕ) (x : ℕ) → AreNew known (emitted ++ x ∷ []) → ¬ Contains (emitted ++ known) x
new-last known [] x h = h.0
new-last known (y ∷ emitted) x h = not_known-fewer x (Includes-shifted (y ∷ []) emitted known) (new-last (y ∷ known) emitted x h.1)

-- ---- worlds

pub put-here : {Value State : Type 0} (x y : ℕ) (v : Value) (w : World Value State) → y ≡ x → (put x v w).values y ≡ v
put-here x y v w e = ap (λ t. if t then v else w.values y) (eq-yes y x e)

pub put-there : {Value State : Type 0} (x y : ℕ) (v : Value) (w : World Value State) → ¬ (y ≡ x) → (put x v w).values y ≡ w.values y
put-there x y v w other = ap (λ t. if t then v else w.values y) (eq-no y x other)

pub put-known : {Value State : Type 0} (known : List ℕ) (x y : ℕ) (v : Value) (w : World Value State) → ¬ Contains known x → Contains known y → (put x v w).values y ≡ w.values y
put-known known x y v w new c = put-there x y v w (λ e. new (subst (Contains known) e c))

module _ {Thing Value State : Type 0} (look : Reference → Thing) (by : Meanings Thing Value State) (at_use at_use' : ℕ → Bool) (old new : List (Expression × Span))
    (precede : OperandsPrecede old) (precede' : OperandsPrecede new) (reads reads' : ℕ → List ℕ)
    (read : ReadsOperands (code_of look at_use old) (record (expressions_in old) { reads = reads })) (read' : ReadsOperands (code_of look at_use' new) (record (expressions_in new) { reads = reads' }))
    (r : ℕ → ℕ) (redirects : Redirects by (expressions_in old).evaluation r (code_of look at_use old) (code_of look at_use' new)) where
  abbrev code : Code (Option (ExpressionForm × List (Option Thing)))
  code = code_of look at_use old

  abbrev code' : Code (Option (ExpressionForm × List (Option Thing)))
  code' = code_of look at_use' new

  abbrev ex : Expressions
  ex = record (expressions_in old) { reads = reads }

  abbrev ex' : Expressions
  ex' = record (expressions_in new) { reads = reads' }

  abbrev IsEmitted : ℕ → Type 0
  IsEmitted x = ex.evaluation x ≡ Some by_way.Emit

  abbrev Steady : ℕ → Type 0
  Steady x = IsSteady by (code'.shape x)

  -- ---- duplicates

  shape-redirected : (x : ℕ) → code'.shape (r x) ≡ code'.shape x
  shape-redirected x = elim (redirects.duplicates x) [
    | inl same ↦ ap code'.shape same
    | inr d ↦ redirects.shape (r x) ∙ d.shape ∙ sym (redirects.shape x)
  ]

  operands-redirected : (x : ℕ) → code'.operands (r x) ≡ code'.operands x
  operands-redirected x = elim (redirects.duplicates x) [
    | inl same ↦ ap code'.operands same
    | inr d ↦ redirects.operands (r x) ∙ d.operands ∙ sym (redirects.operands x)
  ]

  at_use-redirected : (x : ℕ) → at_use' (r x) ≡ at_use x
  at_use-redirected x = elim (redirects.duplicates x) [
    | inl same ↦ ap at_use' same ∙ redirects.at_use x
    | inr d ↦ redirects.at_use (r x) ∙ d.at_use
  ]

  -- ---- what is up to date

  -- each known expression that is steady and evaluated by an `Emit` has the value that it would have if it were evaluated
  -- now
  abbrev UpToDate : List ℕ → World Value State → Type 0
  UpToDate known w = (x : ℕ) → Contains known x → IsEmitted x → Steady x → w.values x ≡ emitted_value by code' w x

  -- the operands of each known expression that is evaluated by an `Emit` may be used
  abbrev Closed : List ℕ → Type 0
  Closed known = (x : ℕ) → Contains known x → IsEmitted x → MayUseEach ex' known (code'.operands x)

  closed-same : {xs ys : List ℕ} → AreSame xs ys → Closed ys → Closed xs
  closed-same same closed x c e = MayUseEach-more ex' same.there (code'.operands x) (closed x (same.back.each x c) e)

  closed-added : (known : List ℕ) (x : ℕ) → Closed known → MayUseEach ex' known (code'.operands x) → Closed (x ∷ known)
  closed-added known x closed so y c e = elim (Contains-append_cases (x ∷ []) known y c) [
    | inl here ↦
        subst (λ z. MayUseEach ex' (x ∷ known) (code'.operands z)) (Contains-one x y here) (MayUseEach-more ex' (Includes-right (x ∷ []) known Includes-itself) (code'.operands x) so)
    | inr there ↦ MayUseEach-more ex' (Includes-right (x ∷ []) known Includes-itself) (code'.operands y) (closed y there e)
  ]

  closed-emitted : (xs known : List ℕ) → Closed known → OperandsAreKnown ex' known xs → Closed (xs ++ known)
  closed-emitted [] known closed so = closed
  closed-emitted (x ∷ xs) known closed so = closed-same (AreSame-turned (AreSame-shifted (x ∷ []) xs known)) (closed-emitted xs (x ∷ known) (closed-added known x closed so.0) so.1)

  abbrev LaterThan : State → State → Type 0
  LaterThan s t = (x : ℕ) → Steady x → (values : List Value) → by.compute (code'.shape x) values t ≡ by.compute (code'.shape x) values s

  steady : (x : ℕ) → at_use' x ≡ true → Steady x
  steady x is = subst (IsSteady by) (sym (redirects.shape x)) (redirects.steady x (sym (redirects.at_use x) ∙ is))

  up_to_date-kept : (known : List ℕ) (a b : World Value State) → LaterThan a.state b.state → ((x : ℕ) → Contains known x → b.values x ≡ a.values x) → Closed known → UpToDate known a → UpToDate known b
  up_to_date-kept known a b later same closed up x c e s =
      let keeps : Keeps by code' ex' read' (λ y is. operands-before new precede' y) known a b =
      record { computes = λ y is values. later y (steady y is) values; values = same }
      in
      same x c ∙ up x c e s ∙ sym (later x s (map (value by code' a) (code'.operands x)))
      ∙ sym (λ i. by.compute (code'.shape x) (values-kept by code' ex' read' (λ y is. operands-before new precede' y) known a b keeps (code'.operands x) (closed x c e) i) b.state)

  up_to_date-fewer : (more fewer : List ℕ) → Includes more fewer → (w : World Value State) → UpToDate more w → UpToDate fewer w
  up_to_date-fewer more fewer h w up x c e s = up x (h.each x c) e s

  unchanged : (s t : State) → t ≡ s → LaterThan s t
  unchanged s t same x steady values = ap (by.compute (code'.shape x) values) same

  -- an expression that is not known is evaluated
  up_to_date-added : (known : List ℕ) (x : ℕ) (w : World Value State) → Closed known → MayUseEach ex' known (code'.operands x) → ¬ Contains known x → UpToDate known w →
      UpToDate (x ∷ known) (put x (emitted_value by code' w x) w)
  up_to_date-added known x w closed so fresh up y c e s = elim (eq-either y x) [
    | yes is ↦
        put-here x y (emitted_value by code' w x) w is ∙ sym (λ i. by.compute (code'.shape x) (after i) w.state) ∙ sym (ap (emitted_value by code' (put x (emitted_value by code' w x) w)) is)
    | no other ↦
        let old_one : Contains known y = elim (Contains-append_cases (x ∷ []) known y c) [ inl here ↦ absurd (other (sym (Contains-one x y here))) | inr there ↦ there ] in
        up_to_date-kept known w (put x (emitted_value by code' w x) w) (unchanged w.state w.state refl) (λ z c'. put-known known x z (emitted_value by code' w x) w fresh c') closed up y old_one e s
  ]
    where
      keeps : Keeps by code' ex' read' (λ z is. operands-before new precede' z) known w (put x (emitted_value by code' w x) w)
      keeps = record { computes = λ z is values. refl; values = λ z c'. put-known known x z (emitted_value by code' w x) w fresh c' }

      after : map (value by code' (put x (emitted_value by code' w x) w)) (code'.operands x) ≡ map (value by code' w) (code'.operands x)
      after = values-kept by code' ex' read' (λ z is. operands-before new precede' z) known w (put x (emitted_value by code' w x) w) keeps (code'.operands x) so

  -- ---- redirected uses

  module _ (known : List ℕ) (w : World Value State) (up : UpToDate known w) where
    abbrev MayUseBoth : ℕ → Type 0
    MayUseBoth x = MayUse ex known x × MayUse ex' known (r x)

    value_there : (x : ℕ) → at_use x ≡ false → MayUseBoth x → w.values (r x) ≡ w.values x
    value_there x is both = elim (redirects.duplicates x) [
      | inl same ↦ ap w.values same
      | inr d ↦
          let ways = d.emitted is in
          let is_steady : Steady x = subst (IsSteady by) (sym (redirects.shape x)) ways.2 in
          up (r x) (read'.itself known (r x) (at_use-redirected x ∙ is) both.1) ways.1 (subst (IsSteady by) (sym (shape-redirected x)) is_steady)
          ∙ (λ i. by.compute (shape-redirected x i) (map (value by code' w) (operands-redirected x i)) w.state)
          ∙ sym (up x (read.itself known x is both.0) ways.0 is_steady)
    ]

    abbrev Fine : ℕ → ℕ → Type 0
    Fine x y = (y < x) × ((r y < r x) × MayUseBoth y)

    fine : (x : ℕ) → at_use x ≡ true → MayUseBoth x → Each (Fine x) (code.operands x)
    fine x is both =
        let renamed : code'.operands (r x) ≡ map r (code.operands x) = operands-redirected x ∙ redirects.operands x in
        each-both (λ y. y < x) (λ y. (r y < r x) × MayUseBoth y) (code.operands x) (operands-before old precede x)
        (each-both (λ y. r y < r x) MayUseBoth (code.operands x) (each-unmapped (λ z. z < r x) r (code.operands x) (subst (Each (λ z. z < r x)) renamed (operands-before new precede' (r x))))
        (each-both (MayUse ex known) (λ y. MayUse ex' known (r y)) (code.operands x) (each-of_all (MayUse ex known) (code.operands x) (read.operands known x is both.0))
        (each-unmapped (MayUse ex' known) r (code.operands x)
        (each-of_all (MayUse ex' known) (map r (code.operands x)) (subst (MayUseEach ex' known) renamed (read'.operands known (r x) (at_use-redirected x ∙ is) both.1))))))

    within-redirected : (l k x : ℕ) → x < l → r x < k → MayUseBoth x → value_within by code' k w (r x) ≡ value_within by code l w x
    within-redirected zero k x less less' both = absurd (omega (arith, less))
    within-redirected (suc l) zero x less less' both = absurd (omega (arith, less'))
    within-redirected (suc l) (suc k) x less less' both = elim (cases_Bool (at_use x)) [
      | inl is ↦
          (λ i. if (at_use-redirected x ∙ is) i then by.compute (code'.shape (r x)) (map (value_within by code' k w) (code'.operands (r x))) w.state else w.values (r x))
          ∙ (λ i. by.compute ((shape-redirected x ∙ redirects.shape x) i) (map (value_within by code' k w) ((operands-redirected x ∙ redirects.operands x) i)) w.state)
          ∙ ap (λ values. by.compute (code.shape x) values w.state)
          (map-renamed (Fine x) r (value_within by code l w) (value_within by code' k w)
          (λ y so. within-redirected l k y (let before : y < x = so.0 in omega (arith, less, before)) (let before : r y < r x = so.1.0 in omega (arith, less', before)) so.1.1) (code.operands x) (fine x is both))
          ∙ sym (λ i. if is i then by.compute (code.shape x) (map (value_within by code l w) (code.operands x)) w.state else w.values x)
      | inr is ↦
          (λ i. if (at_use-redirected x ∙ is) i then by.compute (code'.shape (r x)) (map (value_within by code' k w) (code'.operands (r x))) w.state else w.values (r x))
          ∙ value_there x is both
          ∙ sym (λ i. if is i then by.compute (code.shape x) (map (value_within by code l w) (code.operands x)) w.state else w.values x)
    ]

    value-redirected : (x : ℕ) → MayUseBoth x → value by code' w (r x) ≡ value by code w x
    value-redirected x both = within-redirected (suc x) (suc (r x)) x (omega arith) (omega arith) both

    values-redirected : (xs : List ℕ) → MayUseEach ex known xs → MayUseEach ex' known (map r xs) → map (value by code' w) (map r xs) ≡ map (value by code w) xs
    values-redirected xs so so' =
        map-renamed MayUseBoth r (value by code w) (value by code' w) value-redirected xs
        (each-both (MayUse ex known) (λ y. MayUse ex' known (r y)) xs (each-of_all (MayUse ex known) xs so)
        (each-unmapped (MayUse ex' known) r xs (each-of_all (MayUse ex' known) (map r xs) so')))

    emitted_value-redirected : (x : ℕ) → MayUseEach ex known (code.operands x) → MayUseEach ex' known (code'.operands x) → emitted_value by code' w x ≡ emitted_value by code w x
    emitted_value-redirected x so so' =
        (λ i. by.compute (redirects.shape x i) (map (value by code' w) (redirects.operands x i)) w.state)
        ∙ ap (λ values. by.compute (code.shape x) values w.state) (values-redirected (code.operands x) so (subst (MayUseEach ex' known) (redirects.operands x) so'))

  -- ---- statements

  emit-redirected : (xs known : List ℕ) (w : World Value State) → Closed known → AreNew known xs → OperandsAreKnown ex known xs → OperandsAreKnown ex' known xs → UpToDate known w →
      (emit by code' xs w ≡ emit by code xs w) × UpToDate (xs ++ known) (emit by code xs w)
  emit-redirected [] known w closed fresh so so' up = (refl, up)
  emit-redirected (x ∷ xs) known w closed fresh so so' up =
      let same : emitted_value by code' w x ≡ emitted_value by code w x = emitted_value-redirected known w up x so.0 so'.0 in
      let next : World Value State = put x (emitted_value by code w x) w in
      let up_next : UpToDate (x ∷ known) next = subst (λ v. UpToDate (x ∷ known) (put x v w)) same (up_to_date-added known x w closed so'.0 fresh.0 up) in
      let later = emit-redirected xs (x ∷ known) next (closed-added known x closed so'.0) fresh.1 so.1 so'.1 up_next in
      (ap (λ v. emit by code' xs (put x v w)) same ∙ later.0, up_to_date-fewer (xs ++ (x ∷ known)) ((x ∷ xs) ++ known) (Includes-shifted (x ∷ []) xs known) (emit by code xs next) later.1)

  acted-redirected : (action : Option (StatementForm × List (Option Thing))) (uses : List ℕ) (result : Option ℕ) (known : List ℕ) (w : World Value State) → UpToDate known w →
      MayUseEach ex known uses → MayUseEach ex' known (map r uses) → acted by code' action (map r uses) result w ≡ acted by code action uses result w
  acted-redirected None uses result known w up so so' = refl
  acted-redirected (Some action) uses result known w up so so' =
      ap (λ values. let after = by.perform action values w.state in put_result result after.1 (record w { state = after.0 })) (values-redirected known w up uses so so')

  stopped-redirected : (action : Option (StatementForm × List (Option Thing))) (uses known : List ℕ) (w : World Value State) → UpToDate known w →
      MayUseEach ex known uses → MayUseEach ex' known (map r uses) → stopped by code' action (map r uses) w ≡ stopped by code action uses w
  stopped-redirected None uses known w up so so' = refl
  stopped-redirected (Some action) uses known w up so so' = ap (λ values. by.stop action values w.state) (values-redirected known w up uses so so')

  -- what is known stays up to date, and the result of the statement is not evaluated by an `Emit`
  acted-up_to_date : (action : Option (StatementForm × List (Option Thing))) (uses : List ℕ) (result : Option ℕ) (known : List ℕ) (w : World Value State) → UpToDate known w → Closed known →
      ((x : ℕ) → result ≡ Some x → (¬ Contains known x) × (¬ IsEmitted x)) → UpToDate (option_to_list result ++ known) (acted by code action uses result w)
  acted-up_to_date None uses None known w up closed freshresult = up
  acted-up_to_date None uses (Some x) known w up closed freshresult = λ y c e s. elim (Contains-append_cases (x ∷ []) known y c) [
    | inl here ↦ absurd ((freshresult y (ap Some (Contains-one x y here))).1 e)
    | inr there ↦ up y there e s
  ]
  acted-up_to_date (Some action) uses None known w up closed freshresult =
      let after = by.perform action (map (value by code w) uses) w.state in
      up_to_date-kept known w (record w { state = after.0 }) (λ x s values. s values action (map (value by code w) uses) w.state) (λ x c. refl) closed up
  acted-up_to_date (Some action) uses (Some x) known w up closed freshresult = λ y c e s. elim (Contains-append_cases (x ∷ []) known y c) [
    | inl here ↦ absurd ((freshresult y (ap Some (Contains-one x y here))).1 e)
    | inr there ↦
        let after = by.perform action (map (value by code w) uses) w.state in
        up_to_date-kept known w (put x after.1 (record w { state = after.0 })) (λ z s' values. s' values action (map (value by code w) uses) w.state)
        (λ z c'. put-known known x z after.1 (record w { state = after.0 }) (freshresult x refl).0 c') closed up y there e s
  ]

  closed-performed : (what : Statement) (known : List ℕ) → AreEvaluatedBy ex (evaluation_by what) (evaluated_by what) → OperandsAreKnown ex' known (emitted_by what) → Closed known →
      Closed (evaluated_by what ++ known)
  closed-performed what known evaluated so closed =
      closed-same (AreSame-turned (AreSame-shifted (emitted_by what) (option_to_list (result_of what)) known)) with_result
    where
      before : Closed (emitted_by what ++ known)
      before = closed-emitted (emitted_by what) known closed so

      not_emitted : (x : ℕ) → Contains (option_to_list (result_of what)) x → IsEmitted x → ⊥
      not_emitted x c e =
          let way : ex.evaluation x ≡ Some (evaluation_by what) =
          All-contains (λ y. ex.evaluation y ≡ Some (evaluation_by what)) (evaluated_by what) x evaluated (Contains-append_right (emitted_by what) (option_to_list (result_of what)) x c)
          in
          no_emitted_result what x (result-listed (result_of what) x c) (let both : Some (evaluation_by what) ≡ Some by_way.Emit = sym way ∙ e in cc)

      with_result : Closed (option_to_list (result_of what) ++ (emitted_by what ++ known))
      with_result x c e = elim (Contains-append_cases (option_to_list (result_of what)) (emitted_by what ++ known) x c) [
        | inl here ↦ absurd (not_emitted x here e)
        | inr there ↦ MayUseEach-more ex' (Includes-right (option_to_list (result_of what)) (emitted_by what ++ known) Includes-itself) (code'.operands x) (before x there e)
      ]

  module _ (on_plain : Statement → Statement) where
    -- what is required of a statement where these expressions are known
    record Fits (known : List ℕ) (what : Statement) : Type 0 where
      before : PlainUsesKnown ex known what
      after : PlainUsesKnown ex' known (on_plain what)
      fresh : AreNew known (evaluated_by what)
      redirected : RedirectsStatement (parts look) r what (on_plain what)
      closed : Closed known

    -- the same world, which is up to date
    abbrev SameUpToDate : List ℕ → World Value State → World Value State → Type 0
    SameUpToDate known a b = (b ≡ a) × UpToDate known a

    abbrev M : Machine (World Value State)
    M = machine (parts look) by code

    abbrev M' : Machine (World Value State)
    M' = machine (parts look) by code'

    module _ (known : List ℕ) (what : Statement) (fits : Fits known what) (a b : World Value State) (same : SameUpToDate known a b) where
      replaced : RedirectsStatement (parts look) r what (on_plain what)
      replaced = fits.redirected

      abbrev inside : List ℕ
      inside = emitted_by what ++ known

      abbrev w : World Value State
      w = emit by code (emitted_by what) a

      more : Includes inside known
      more = Includes-right (emitted_by what) known Includes-itself

      operands : OperandsAreKnown ex' known (emitted_by what)
      operands = subst (OperandsAreKnown ex' known) replaced.emits fits.after.operands

      uses : MayUseEach ex inside (used_by what)
      uses = MayUseEach-more ex more (used_by what) fits.before.used

      uses_after : MayUseEach ex' inside (map r (used_by what))
      uses_after = MayUseEach-more ex' more (map r (used_by what)) (subst (MayUseEach ex' known) replaced.uses fits.after.used)

      emitted : (emit by code' (emitted_by what) a ≡ w) × UpToDate inside w
      emitted = emit-redirected (emitted_by what) known a fits.closed (new-first known (emitted_by what) (option_to_list (result_of what)) fits.fresh) fits.before.operands operands same.1

      new_result : (x : ℕ) → result_of what ≡ Some x → (¬ Contains inside x) × (¬ IsEmitted x)
      new_result x is = (
        new-last known (emitted_by what) x (subst (λ t. AreNew known (emitted_by what ++ option_to_list t)) is fits.fresh),
        λ e.
            let way : ex.evaluation x ≡ Some (evaluation_by what) =
            All-contains (λ y. ex.evaluation y ≡ Some (evaluation_by what)) (evaluated_by what) x fits.before.evaluated
            (Contains-append_right (emitted_by what) (option_to_list (result_of what)) x (subst (λ t. Contains (option_to_list t) x) (sym is) (0, omega arith, refl)))
            in
            no_emitted_result what x is (let both : Some (evaluation_by what) ≡ Some by_way.Emit = sym way ∙ e in cc),
      )

      performs-redirected : SameUpToDate (evaluated_by what ++ known) (M.perform what a) (M'.perform (on_plain what) b)
      performs-redirected = (
        (λ i. acted by code' (replaced.action i) (replaced.uses i) (replaced.result i) (emit by code' (replaced.emits i) (same.0 i)))
            ∙ ap (acted by code' ((parts look).action what) (map r (used_by what)) (result_of what)) emitted.0
            ∙ acted-redirected ((parts look).action what) (used_by what) (result_of what) inside w emitted.1 uses uses_after,
        up_to_date-fewer (option_to_list (result_of what) ++ inside) (evaluated_by what ++ known) (Includes-shifted (emitted_by what) (option_to_list (result_of what)) known) (M.perform what a)
            (acted-up_to_date ((parts look).action what) (used_by what) (result_of what) inside w emitted.1 (closed-emitted (emitted_by what) known fits.closed operands) new_result),
      )

      stops-redirected : M'.stop (on_plain what) b ≡ M.stop what a
      stops-redirected =
          (λ i. stopped by code' (replaced.action i) (replaced.uses i) (emit by code' (replaced.emits i) (same.0 i)))
          ∙ ap (stopped by code' ((parts look).action what) (map r (used_by what))) emitted.0
          ∙ stopped-redirected ((parts look).action what) (used_by what) inside w emitted.1 uses uses_after

    -- ---- blocks

    abbrev Redirected : Statement → Type 0
    Redirected what = RedirectsStatement (parts look) r what (on_plain what)

    abbrev Any : ℕ → Type 0
    Any handle = Unit {0}

    abbrev to_tree : Tree → Tree
    to_tree = map_tree on_plain r

    abbrev to_node : Node → Node
    to_node = map_node on_plain r

    abbrev to_cases : Cases → Cases
    to_cases = map_cases on_plain r

    evaluated-redirected : (what : Statement) → Redirected what → evaluated_by (on_plain what) ≡ evaluated_by what
    evaluated-redirected what red = λ i. red.emits i ++ option_to_list (red.result i)

    node_values-redirected : (node : Node) → NodeIsIn Redirected Any node → values_of_node (to_node node) ≡ values_of_node node
    node_values-redirected (plain what) red = evaluated-redirected what red
    node_values-redirected (nested inner) red = refl
    node_values-redirected (branch condition accept reject) red = refl
    node_values-redirected (switch selector cases) red = refl
    node_values-redirected (loop body continuing break_if) red = refl
    node_values-redirected (jump to) red = refl

    block_values-redirected : (block : Tree) → IsIn Redirected Any block → values_of (to_tree block) ≡ values_of block
    block_values-redirected empty red = refl
    block_values-redirected (push front last span) red = λ i. block_values-redirected front red.0 i ++ node_values-redirected last red.1 i

    certain-redirected : (block : Tree) → IsIn Redirected Any block → IsIn Redirected Any (certain block)
    certain-redirected empty red = red
    certain-redirected (push front last span) red = go (may_be_skipped (ways_of front) (ways_of_node last)) (certain-redirected front red.0)
      where
        go : (t : Bool) → IsIn Redirected Any (certain front) → IsIn Redirected Any (if t then certain front else push front last span)
        go true h = h
        go false h = red

    certain_values-redirected : (block : Tree) → IsIn Redirected Any block → values_of (certain (to_tree block)) ≡ values_of (certain block)
    certain_values-redirected block red = ap values_of (map_tree-certain on_plain r block) ∙ block_values-redirected (certain block) (certain-redirected block red)

    node-closed : (node : Node) (known : List ℕ) → NodeIsIn Redirected Any node → NodeUsesKnown ex known node → NodeUsesKnown ex' known (to_node node) → Closed known →
        Closed (values_of_node node ++ known)
    node-closed (plain what) known red h h' closed = closed-performed what known h.evaluated (subst (OperandsAreKnown ex' known) red.emits h'.operands) closed
    node-closed (nested inner) known red h h' closed = closed
    node-closed (branch condition accept reject) known red h h' closed = closed
    node-closed (switch selector cases) known red h h' closed = closed
    node-closed (loop body continuing break_if) known red h h' closed = closed
    node-closed (jump to) known red h h' closed = closed

    -- the last statement, where what the statements before it evaluate is known
    last-uses : (known : List ℕ) (front : Tree) (last : Node) → IsIn Redirected Any front → NodeUsesKnown ex' (values_of (to_tree front) ++ known) (to_node last) →
        NodeUsesKnown ex' (values_of front ++ known) (to_node last)
    last-uses known front last red h = subst (λ values. NodeUsesKnown ex' (values ++ known) (to_node last)) (block_values-redirected front red) h

    block-closed : (block : Tree) (known : List ℕ) → IsIn Redirected Any block → UsesKnown ex known block → UsesKnown ex' known (to_tree block) → Closed known → Closed (values_of block ++ known)
    block-closed empty known red h h' closed = closed
    block-closed (push front last span) known red h h' closed =
        closed-same (AreSame-turned (AreSame-shifted (values_of front) (values_of_node last) known))
        (node-closed last (values_of front ++ known) red.1 h.1 (last-uses known front last red.0 h'.1) (block-closed front known red.0 h.0 h'.0 closed))

    certain-closed : (block : Tree) (known : List ℕ) → IsIn Redirected Any block → UsesKnown ex known block → UsesKnown ex' known (to_tree block) → Closed known → Closed (values_of (certain block) ++ known)
    certain-closed empty known red h h' closed = closed
    certain-closed (push front last span) known red h h' closed =
        go (may_be_skipped (ways_of front) (ways_of_node last)) (certain-closed front known red.0 h.0 h'.0 closed) (block-closed (push front last span) known red h h' closed)
      where
        go : (t : Bool) → Closed (values_of (certain front) ++ known) → Closed (values_of (push front last span) ++ known) →
            Closed (values_of (if t then certain front else push front last span) ++ known)
        go true h h' = h
        go false h h' = h'

    abbrev Both : List ℕ → ℕ → Type 0
    Both known x = MayUse ex known x × MayUse ex' known (r x)

    abbrev News : List ℕ → Statement → Type 0
    News known what = AreNew known (evaluated_by what)

    abbrev AnyKnown : List ℕ → ℕ → Type 0
    AnyKnown known handle = ⊤

    both-if : (known : List ℕ) (value : Option ℕ) → MayUseEach ex known (option_to_list value) → MayUseEach ex' known (option_to_list (option_map r value)) → IfAny (Both known) value
    both-if known None h h' = tt
    both-if known (Some x) h h' = (All-head (MayUse ex known) x [] h, All-head (MayUse ex' known) (r x) [] h')

    mutual
      block-fits : (block : Tree) (known : List ℕ) → IsIn Redirected Any block → InScope News AnyKnown known block → UsesKnown ex known block → UsesKnown ex' known (to_tree block) → Closed known →
          InScope Fits Both known block
      block-fits empty known red fresh h h' closed = tt
      block-fits (push front last span) known red fresh h h' closed = (
        block-fits front known red.0 fresh.0 h.0 h'.0 closed,
        node-fits last (values_of front ++ known) red.1 fresh.1 h.1 (last-uses known front last red.0 h'.1) (block-closed front known red.0 h.0 h'.0 closed),
      )

      node-fits : (node : Node) (known : List ℕ) → NodeIsIn Redirected Any node → NodeInScope News AnyKnown known node → NodeUsesKnown ex known node → NodeUsesKnown ex' known (to_node node) →
          Closed known → NodeInScope Fits Both known node
      node-fits (plain what) known red fresh h h' closed = record { before = h; after = h'; fresh = fresh; redirected = red; closed = closed }
      node-fits (nested inner) known red fresh h h' closed = block-fits inner known red fresh h h' closed
      node-fits (branch condition accept reject) known red fresh h h' closed =
          ((h.0, h'.0), block-fits accept known red.1 fresh.1 h.1 h'.1 closed, block-fits reject known red.2 fresh.2 h.2 h'.2 closed)
      node-fits (switch selector cases) known red fresh h h' closed = ((h.0, h'.0), cases-fit cases known red.1 fresh.1 h.1 h'.1 closed)
      node-fits (loop body continuing break_if) known red fresh h h' closed =
          let within : List ℕ = values_of (certain body) ++ known in
          let at_end : List ℕ = values_of (certain continuing) ++ within in
          let after : may_go_on (ways_of body) ≡ true → may_go_on (ways_of (to_tree body)) ≡ true = λ reached. ap may_go_on (map_tree-ways on_plain r body) ∙ reached in
          let same : values_of (certain (to_tree body)) ++ known ≡ within = ap (λ values. values ++ known) (certain_values-redirected body red.0) in
          let same_end : values_of (certain (to_tree continuing)) ++ (values_of (certain (to_tree body)) ++ known) ≡ at_end = λ i. certain_values-redirected continuing red.1 i ++ same i in (
            block-fits body known red.0 fresh.0 h.0 h'.0 closed,
            λ reached. (
              block-fits continuing within red.1 (fresh.1 reached).0 (subst (λ t. UsesKnown (where_reached t ex) within continuing) reached h.1)
                  (subst (λ t. UsesKnown (where_reached t ex') within (to_tree continuing)) (after reached) (subst (λ values. UsesKnown (after_body (to_tree body) ex') values (to_tree continuing)) same h'.1)) (certain-closed body known red.0 h.0 h'.0 closed),
              both-if at_end break_if (subst (λ t. MayUseEach (where_reached t ex) at_end (option_to_list break_if)) reached h.2)
                  (subst (λ t. MayUseEach (where_reached t ex') at_end (option_to_list (option_map r break_if))) (after reached)
                  (subst (λ values. MayUseEach (after_body (to_tree body) ex') values (option_to_list (option_map r break_if))) same_end h'.2)),
            ),
          )
      node-fits (jump break) known red fresh h h' closed = tt
      node-fits (jump continue) known red fresh h h' closed = tt
      node-fits (jump kill) known red fresh h h' closed = tt
      node-fits (jump (return value)) known red fresh h h' closed = both-if known value h h'

      cases-fit : (cases : Cases) (known : List ℕ) → CasesAreIn Redirected Any cases → CasesInScope News AnyKnown known cases → CasesUseKnown ex known cases → CasesUseKnown ex' known (to_cases cases) →
          Closed known → CasesInScope Fits Both known cases
      cases-fit no_cases known red fresh h h' closed = tt
      cases-fit (case value body falls_through others) known red fresh h h' closed =
          (block-fits body known red.0 fresh.0 h.0 h'.0 closed, cases-fit others known red.1 fresh.1 h.1 h'.1 closed)

    -- ---- outcomes

    abbrev SameValue : ℕ → World Value State → World Value State → Type 0
    SameValue x a b = value by code' b (r x) ≡ value by code a x

    same-value : (known : List ℕ) (x : ℕ) → Both known x → (a b : World Value State) → SameUpToDate known a b → SameValue x a b
    same-value known x both a b same = ap (λ w. value by code' w (r x)) same.0 ∙ value-redirected known a same.1 x both

    returned-redirected : (e : Ending) (a b : World Value State) → Returned SameUpToDate (λ more less h a' b' same. (same.0, up_to_date-fewer more less h a' same.1)) r SameValue e a b →
        option_map (value by code' b) (result_of_ending (map_ending r e)) ≡ option_map (value by code a) (result_of_ending e)
    returned-redirected (Return (Some x)) a b same = ap Some same
    returned-redirected (Return None) a b same = refl
    returned-redirected _ a b same = refl

    ending-redirected : (e : Ending) → map_ending (λ handle. 0) (map_ending r e) ≡ map_ending (λ handle. 0) e
    ending-redirected (Return (Some x)) = refl
    ending-redirected (Return None) = refl
    ending-redirected _ = refl

    outcome-same : (body : Tree) → IsIn Redirected Any body → InScope News AnyKnown [] body → UsesKnown ex [] body → UsesKnown ex' [] (to_tree body) → (turns : ℕ) (start : World Value State) →
        outcome (parts look) by code' turns (to_tree body) start ≡ outcome (parts look) by code turns body start
    outcome-same body red fresh h h' turns start =
        let left = does M turns body start in
        let left' = does M' turns (to_tree body) start in
        let m =
        does-left SameUpToDate (λ more less h a' b' same. (same.0, up_to_date-fewer more less h a' same.1)) r SameValue Fits Both on_plain M M' performs-redirected stops-redirected
        (λ known x both a b same. ap by.decide (same-value known x both a b same)) (λ known x vs both a b same. ap (λ v. by.choose v vs) (same-value known x both a b same)) same-value turns [] body (block-fits body [] red fresh h h' (λ x c e. absurd (omega (arith, c.1)))) start start
        (refl, λ x c e s. absurd (omega (arith, c.1)))
        in
        λ i. record {
          state = (m.state.0 i).state;
          ending = (ap (map_ending (λ handle. 0)) m.ending ∙ ending-redirected left.ending) i;
          slipped = m.slipped i;
          returned = (ap (λ e. option_map (value by code' left'.state) (result_of_ending e)) m.ending ∙ returned-redirected left.ending left.state left'.state m.returned) i;
        }

    pub outcome-redirected : (body : Tree) → IsIn Redirected Any body → InScope News AnyKnown [] body → UsesKnown ex [] body → UsesKnown ex' [] (to_tree body) → (turns : ℕ) (a b : World Value State) →
        b.state ≡ a.state → outcome (parts look) by code' turns (to_tree body) b ≡ outcome (parts look) by code turns body a
    outcome-redirected body red fresh h h' turns a b same =
        outcome-same body red fresh h h' turns b ∙ outcome-agrees look by at_use old reads (operands-decide by code ex read (λ x is. operands-before old precede x)) body h turns a b same
