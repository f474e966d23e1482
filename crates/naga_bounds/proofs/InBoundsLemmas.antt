-- A function whose accesses fit accesses only elements that are there.
use Rattle.std.proofs.Common.{◌≡◌, ◌∙◌, append_assoc, sym, ap, subst, refl, inl, inr, ℕ, suc, ◌-◌, ◌<◌, ◌≤◌, Bool, true, false, List, [], ◌∷◌, ◌++◌, map, Option, Some, None, option_to_list, arith}
use Rattle.std.proofs.lemmas.Bool.Decides.{nat_tests}
use Rattle.std.proofs.lemmas.List.Elements.{All-contains, All-head, All-tail, Contains-append_cases, Contains-append_right, Contains-push}
use Rattle.std.specs.List.{Contains}
use Rattle.std.specs.Prelude.{◌&&◌, ◌||◌, ◌⊎◌, Result, Ok, Err, ⊤, if◌then◌else◌, nat_eq, nat_le, nat_lt, option_map, take}
use Rattle.naga_kinds.specs.Scalar.{components_of}
use Rattle.naga_kinds.specs.declared.math.MathFunction.TheVariants.{Clamp, Min}
use Rattle.naga_kinds.specs.declared.operator.BinaryOperator.TheVariants.{And, Modulo, Subtract}
use Rattle.naga_kinds.specs.declared.operator.SwizzleComponent.{SwizzleComponent}
use Rattle.naga_ir.specs.Literal.{u32_of}
use Rattle.naga_ir.specs.Tree.{Tree}
use Rattle.naga_ir.specs.declared.const_value.ConstValueError.{ConstValueError}
use Rattle.naga_ir.specs.declared.expression.Expression.{Expression}
use Rattle.naga_ir.specs.declared.expression.Expression.TheVariants as expr
use Rattle.naga_ir.specs.declared.literal.Literal as literal
use Rattle.naga_ir.specs.declared.literal.Literal.TheVariants.{U32}
use Rattle.naga_ir.specs.declared.statement.Statement.{Statement, Emit}
use Rattle.naga_ir.specs.declared.types.TypeInner.{TypeInner}
use Rattle.naga_valid.specs.Operands.{operands_of}
use Rattle.naga_valid.specs.declared.reference.Reference.{Reference}
use Rattle.naga_flow.specs.Events.{Event, met, branched, selected, returned}
use Rattle.naga_flow.specs.Readings.{passes}
use Rattle.naga_flow.specs.Results.{emitted_by, evaluated_by, evaluation_by, evaluation_of, result_of, used_by}
use Rattle.naga_flow.specs.Tracking.{Includes}
use Rattle.naga_flow.specs.Uses.{Expressions, MayUse, MayUseEach, OperandsAreKnown, PlainUsesKnown, UsesKnown, operands_found}
use Rattle.naga_flow.specs.declared.evaluation.Evaluation.{Evaluation}
use Rattle.naga_flow.specs.declared.evaluation.Evaluation.TheVariants as way
use Rattle.naga_flow.proofs.EventsLemmas.{EventsUseKnown}
use Rattle.naga_flow.proofs.IncludesLemmas.{Contains-one, Includes-both, Includes-itself, Includes-left, Includes-right, Includes-shifted}
use Rattle.naga_flow.proofs.UsesOnlyEvaluatedLemmas.{BlockRuns-uses}
use Rattle.naga_compact.specs.Operands.{OperandsPrecede}
use Rattle.naga_meaning.specs.Adequacy.{IsABeginning, after}
use Rattle.naga_meaning.specs.Forms.{ExpressionForm, StatementForm}
use Rattle.naga_meaning.specs.Functions.{Meanings, action_of, parts}
use Rattle.naga_meaning.specs.Machine.{Done}
use Rattle.naga_meaning.specs.Values.{Code, World, act, acted, emit, emitted_value, machine, put, put_result, value}
use Rattle.naga_meaning.proofs.IsABeginningLemmas.{does-IsABeginning}
use Rattle.naga_meaning.proofs.RenamesCodeLemmas.{eq-either, eq-no, eq-yes}
use Rattle.naga_typifier.specs.Context.{inner_at}
use Rattle.naga_typifier.specs.Rows.{◌>>=◌}
use Rattle.naga_bounds.specs.Fits.{EachFits, are_ordered, bound_of, counted_by, difference_of, first_misfit, has_part, is_bounded, is_clamped, is_divisor, is_length, is_length_less_one, is_limit, is_unsigned, length_found, misfit_at, misfit_in, misfit_of, misfit_of_constant, misfit_of_index, number_of, or_unknown, override_of, unsigned_of}
use Rattle.naga_bounds.specs.Reach.{Reach, Typed, at_use, contents_at, expression_at, length_at, length_reached, positions_of, reach_of}
use Rattle.naga_bounds.specs.Respects.{HasElements, IsAtMost, IsSteady, LengthsStay, RespectsIndices, applied, array_length, override_value}
use Rattle.naga_bounds.specs.Watched.{StaysInBounds, are_below, are_in_bounds, count, count_at, is_below, is_in_bounds, is_there, position, watched}
use Rattle.naga_bounds.specs.declared.cause.Cause.{Cause}
use Rattle.naga_bounds.specs.declared.cause.Cause.TheVariants.{Index, Part}
use Rattle.naga_bounds.specs.declared.cause.Position.{Position}
use Rattle.naga_bounds.specs.declared.cause.Position.TheVariants.{Constant, Computed}
use Rattle.naga_bounds.specs.declared.length.Length.{Length}
use Rattle.naga_bounds.specs.declared.length.Length.TheVariants.{Fixed, Overridden, Counted}
use Rattle.naga_bounds.proofs.SteadyLemmas.{Alike, C, emitted-at, evaluated-before, ex, not-at_use, value-alike, value-ready, value-stored}

-- ---- tests

pub both : (a b : Bool) → (a && b) ≡ true → (a ≡ true) × (b ≡ true)
both true b h = (refl, h)
both false b h = absurd (let e : false ≡ true = h in cc)

pub and-true : (a b : Bool) → a ≡ true → b ≡ true → (a && b) ≡ true
and-true a b h k = (λ i. h i && b) ∙ k

-- ---- statements

-- a statement that only evaluates has no result
no-result : {Thing : Type 0} (look : Reference → Thing) (what : Statement) → action_of look what ≡ None → result_of what ≡ None
no-result look (Emit range) is = refl
no-result look _ is = absurd (cc)

-- what an `Emit` evaluates is no result
result-way : (what : Statement) (r : ℕ) → result_of what ≡ Some r → evaluation_by what ≡ way.Emit → ⊥
result-way (Emit range) r is by_emit = cc
result-way _ r is by_emit = cc

-- what a statement evaluates, with its result in front
result-first : (emitted result known : List ℕ) → Includes (result ++ (emitted ++ known)) ((emitted ++ result) ++ known)
result-first emitted result known =
    Includes-both (emitted ++ result) known
    (Includes-both emitted result (Includes-right result (emitted ++ known) (Includes-left emitted known Includes-itself)) (Includes-left result (emitted ++ known) Includes-itself))
    (Includes-right result (emitted ++ known) (Includes-right emitted known Includes-itself))

-- ---- forms of expressions

pub unsigned-form : (test : ℕ → Bool) (found : Option Expression) → passes test (found >>= unsigned_of) ≡ true
    → (n : ℕ) × (found ≡ Some (expr.Literal (U32 n))) × (test n ≡ true)
unsigned-form test (Some (expr.Literal (U32 n))) h = (n, refl, h)
unsigned-form test _ h = absurd (let e : false ≡ true = h in cc)

pub counted-form : (test : ℕ → Bool) (found : Option Expression) → passes test (found >>= counted_by) ≡ true
    → (array : ℕ) × (found ≡ Some (expr.ArrayLength array)) × (test array ≡ true)
counted-form test (Some (expr.ArrayLength array)) h = (array, refl, h)
counted-form test _ h = absurd (let e : false ≡ true = h in cc)

pub override-form : (test : ℕ → Bool) (found : Option Expression) → passes test (found >>= override_of) ≡ true
    → (handle : ℕ) × (found ≡ Some (expr.Override handle)) × (test handle ≡ true)
override-form test (Some (expr.Override handle)) h = (handle, refl, h)
override-form test _ h = absurd (let e : false ≡ true = h in cc)

-- one of two tests passes
pub one-passes : (a b : Bool) → (a || b) ≡ true → (a ≡ true) ⊎ (b ≡ true)
one-passes true b h = inl refl
one-passes false b h = inr h

-- an expression whose operands show that its value is below a length
module _ (typed : Typed) (long : Length) (base : ℕ) where
  pub data IsBounded : Expression → Type 0 where
    by_first : {arg limit : ℕ} → is_limit typed long base arg ≡ true → IsBounded (expr.Math Min arg (Some limit) None None)
    by_second : {arg limit : ℕ} → is_limit typed long base limit ≡ true → IsBounded (expr.Math Min arg (Some limit) None None)
    by_interval : {arg low high : ℕ} → is_limit typed long base high ≡ true → are_ordered typed low high ≡ true
        → IsBounded (expr.Math Clamp arg (Some low) (Some high) None)
    by_left : {left right : ℕ} → is_limit typed long base left ≡ true → IsBounded (expr.Binary And left right)
    by_right : {left right : ℕ} → is_limit typed long base right ≡ true → IsBounded (expr.Binary And left right)
    by_divisor : {left right : ℕ} → is_divisor typed long base right ≡ true → IsBounded (expr.Binary Modulo left right)

  abbrev Found : Option Expression → Type 0
  Found found = (e : Expression) × (found ≡ Some e) × IsBounded e

  pub bounded-form : (found : Option Expression) → is_bounded typed long base (found >>= bound_of) ≡ true → Found found
  bounded-form (Some (expr.Math Min arg None arg2 arg3)) h = absurd (let e : false ≡ true = h in cc)
  bounded-form (Some (expr.Math Min arg (Some limit) (Some arg2) arg3)) h = absurd (let e : false ≡ true = h in cc)
  bounded-form (Some (expr.Math Min arg (Some limit) None (Some arg3))) h = absurd (let e : false ≡ true = h in cc)
  bounded-form (Some (expr.Math Min arg (Some limit) None None)) h =
      elim (one-passes (is_limit typed long base arg) (is_limit typed long base limit) h) [
        | inl so ↦ (expr.Math Min arg (Some limit) None None, refl, by_first so)
        | inr so ↦ (expr.Math Min arg (Some limit) None None, refl, by_second so)
      ]
  bounded-form (Some (expr.Math Clamp arg None arg2 arg3)) h = absurd (let e : false ≡ true = h in cc)
  bounded-form (Some (expr.Math Clamp arg (Some low) None arg3)) h = absurd (let e : false ≡ true = h in cc)
  bounded-form (Some (expr.Math Clamp arg (Some low) (Some high) (Some arg3))) h = absurd (let e : false ≡ true = h in cc)
  bounded-form (Some (expr.Math Clamp arg (Some low) (Some high) None)) h =
      let tests = both (is_limit typed long base high) (are_ordered typed low high) h in
      (expr.Math Clamp arg (Some low) (Some high) None, refl, by_interval tests.0 tests.1)
  bounded-form (Some (expr.Binary And left right)) h =
      elim (one-passes (is_limit typed long base left) (is_limit typed long base right) h) [
        | inl so ↦ (expr.Binary And left right, refl, by_left so)
        | inr so ↦ (expr.Binary And left right, refl, by_right so)
      ]
  bounded-form (Some (expr.Binary Modulo left right)) h = (expr.Binary Modulo left right, refl, by_divisor h)
  bounded-form _ h = absurd (let e : false ≡ true = h in cc)

  -- it is evaluated by an `Emit`
  pub bounded-emitted : (e : Expression) → IsBounded e → evaluation_of e ≡ way.Emit
  bounded-emitted e (by_first so) = refl
  bounded-emitted e (by_second so) = refl
  bounded-emitted e (by_interval so ordered) = refl
  bounded-emitted e (by_left so) = refl
  bounded-emitted e (by_right so) = refl
  bounded-emitted e (by_divisor so) = refl

  bounded-unsteady : (e : Expression) → IsBounded e → IsSteady e → ⊥
  bounded-unsteady e (by_first so) steady = let e : false ≡ true = steady in cc
  bounded-unsteady e (by_second so) steady = let e : false ≡ true = steady in cc
  bounded-unsteady e (by_interval so ordered) steady = let e : false ≡ true = steady in cc
  bounded-unsteady e (by_left so) steady = let e : false ≡ true = steady in cc
  bounded-unsteady e (by_right so) steady = let e : false ≡ true = steady in cc
  bounded-unsteady e (by_divisor so) steady = let e : false ≡ true = steady in cc

module _ (typed : Typed) where
  -- a length less one
  pub record IsLess (long : Length) (base : ℕ) (found : Option Expression) : Type 0 where
    pub left : ℕ
    pub right : ℕ
    pub found_as : found ≡ Some (expr.Binary Subtract left right)
    pub is_long : is_length typed long base left ≡ true
    pub is_one : is_unsigned typed (nat_eq 1) right ≡ true

  pub less-form : (long : Length) (base : ℕ) (found : Option Expression) → is_length_less_one typed long base (found >>= difference_of) ≡ true → IsLess long base found
  less-form long base (Some (expr.Binary Subtract left right)) h =
      let parts_of = both (is_length typed long base left) (is_unsigned typed (nat_eq 1) right) h in
      record { left = left; right = right; found_as = refl; is_long = parts_of.0; is_one = parts_of.1 }
  less-form long base _ h = absurd (let e : false ≡ true = h in cc)

  counted-at_use : (base handle : ℕ) → is_length typed Counted base handle ≡ true → at_use typed base ≡ true
  counted-at_use base handle h = (both (passes (nat_eq base) (expression_at typed handle >>= counted_by)) (at_use typed base) h).1

  -- the base of a clamp by the length of an array in a buffer
  clamp-at_use : (base index : ℕ) → is_clamped typed Counted base index ≡ true → at_use typed base ≡ true
  clamp-at_use base index h = go (bounded-form typed Counted base (expression_at typed index) h).2
    where
      by_limit : (x : ℕ) → is_limit typed Counted base x ≡ true → at_use typed base ≡ true
      by_limit x so = let less = less-form Counted base (expression_at typed x) so in counted-at_use base less.left less.is_long

      go : {e : Expression} → IsBounded typed Counted base e → at_use typed base ≡ true
      go (by_first {arg} so) = by_limit arg so
      go (by_second {arg} {limit} so) = by_limit limit so
      go (by_interval {arg} {low} {high} so ordered) = by_limit high so
      go (by_left {left} so) = by_limit left so
      go (by_right {left} {right} so) = by_limit right so
      go (by_divisor {left} {right} so) = counted-at_use base right so

module _ {Thing Value State : Type 0} (look : Reference → Thing) (by : Meanings Thing Value State) (number unsigned_number : Value → Option ℕ) (typed : Typed)
    (precede : OperandsPrecede typed.arena) (IsSize : ℕ → Type 0) (sizes : (base handle : ℕ) → length_at typed base ≡ Some (Overridden handle) → IsSize handle)
    (respects : RespectsIndices look by number unsigned_number) (has : HasElements look by number IsSize) (stay : LengthsStay look by number)
    (w0 : World Value State) where
  abbrev c : Code (Option (ExpressionForm × List (Option Thing)))
  c = C look by number typed precede

  abbrev known_by : Expressions
  known_by = ex look by number typed precede

  -- how many elements there are at the start
  abbrev count0 : Length → (base : ℕ) → Option ℕ
  count0 long base = count look by number typed long (value by c w0 base) w0.state

  abbrev IsOneLess : Value → Length → (base : ℕ) → Type 0
  IsOneLess v long base = (n : ℕ) × (unsigned_number v ≡ Some n) × (count0 long base ≡ Some (suc n))

  -- the expression may have this value
  record IsFine (x : ℕ) (v : Value) : Type 0 where
    pub lengths : (base : ℕ) → expression_at typed x ≡ Some (expr.ArrayLength base) → at_use typed base ≡ true → number v ≡ number (array_length look by (value by c w0 base) w0.state)
    pub unsigned_lengths : (base : ℕ) → expression_at typed x ≡ Some (expr.ArrayLength base) → at_use typed base ≡ true → unsigned_number v ≡ number (array_length look by (value by c w0 base) w0.state)
    pub limits : (long : Length) (base : ℕ) → length_at typed base ≡ Some long → is_length_less_one typed long base (expression_at typed x >>= difference_of) ≡ true → IsOneLess v long base
    pub clamps : (long : Length) (base : ℕ) → length_at typed base ≡ Some long → is_clamped typed long base x ≡ true → is_below (number v) (count0 long base) ≡ true

  record Holds (known : List ℕ) (w : World Value State) : Type 0 where
    pub alike : Alike look by number typed precede w0.state w.state
    pub fine : (x : ℕ) → Contains known x → IsFine x (w.values x)

  fewer : {more some : List ℕ} {w : World Value State} → Includes more some → Holds more w → Holds some w
  fewer h s = record { alike = s.alike; fine = λ x d. s.fine x (h.each x d) }

  put-holds : (x : ℕ) (v : Value) (known : List ℕ) (w : World Value State) → Holds known w → IsFine x v → Holds (x ∷ known) (put x v w)
  put-holds x v known w h f = record {
    alike = h.alike;
    fine = λ y d. elim (eq-either y x) [
      | yes e ↦ subst (IsFine y) (sym (ap (λ t. if t then v else w.values y) (eq-yes y x e))) (subst (λ z. IsFine z v) (sym e) f)
      | no other ↦
          let old : Contains known y = elim (Contains-append_cases (x ∷ []) known y d) [ inl here ↦ absurd (other (sym (Contains-one x y here))) | inr there ↦ there ] in
          subst (IsFine y) (sym (ap (λ t. if t then v else w.values y) (eq-no y x other))) (h.fine y old)
    ];
  }

  module _ (known : List ℕ) (w : World Value State) (holds : Holds known w) where
    stored-fine : (x : ℕ) (e : Expression) → MayUse known_by known x → expression_at typed x ≡ Some e → (IsSteady e → ⊥) → IsFine x (value by c w x)
    stored-fine x e may is other =
        let stored = not-at_use look by number typed precede x e is other in
        subst (IsFine x) (sym (value-stored look by number typed precede w x stored)) (holds.fine x (evaluated-before look by number typed precede known x stored may))

    unsigned-value : (x n : ℕ) → expression_at typed x ≡ Some (expr.Literal (U32 n)) → unsigned_number (value by c w x) ≡ Some n
    unsigned-value x n is = ap unsigned_number (value-ready look by number typed precede w x (expr.Literal (U32 n)) is refl) ∙ respects.unsigned_literals n w.state

    override-value : (x handle base : ℕ) → expression_at typed x ≡ Some (expr.Override handle) → number (value by c w x) ≡ number (override_value look by handle w0.state)
    override-value x handle base is =
        ap number (value-ready look by number typed precede w x (expr.Override handle) is refl ∙ holds.alike.ready (expr.Override handle) [] refl)

    -- the array of which this is the length
    counted-as : (base x : ℕ) → is_length typed Counted base x ≡ true → (expression_at typed x ≡ Some (expr.ArrayLength base)) × (at_use typed base ≡ true)
    counted-as base x so =
        let tests = both (passes (nat_eq base) (expression_at typed x >>= counted_by)) (at_use typed base) so in
        let form = counted-form (nat_eq base) (expression_at typed x) tests.0 in
        let same : form.0 ≡ base = (let t : nat_eq base form.0 ≡ true = form.2 in grind (arith, nat_tests)) in
        (form.1 ∙ ap (λ b. Some (expr.ArrayLength b)) same, tests.1)

    -- the length of the base, and that there is an element
    length-value : (long : Length) (base x : ℕ) → length_at typed base ≡ Some long → MayUse known_by known x → is_length typed long base x ≡ true →
        (n : ℕ) × (number (value by c w x) ≡ Some (suc n)) × (count0 long base ≡ Some (suc n))
    length-value (Fixed k) base x long may so = absurd (let e : false ≡ true = so in cc)
    length-value Counted base x long may so =
        let is = counted-as base x so in
        let fine = stored-fine x (expr.ArrayLength base) may is.0 (λ steady. let e : false ≡ true = steady in cc) in
        let some = has.counted (value by c w0 base) w0.state in
        (some.0, fine.lengths base is.0 is.1 ∙ some.1, some.1)
    length-value (Overridden handle) base x long may so =
        let form = override-form (nat_eq handle) (expression_at typed x) so in
        let same : form.0 ≡ handle = (let t : nat_eq handle form.0 ≡ true = form.2 in grind (arith, nat_tests)) in
        let is : expression_at typed x ≡ Some (expr.Override handle) = form.1 ∙ ap (λ b. Some (expr.Override b)) same in
        let some = has.overridden handle w0.state (sizes base handle long) in
        (some.0, override-value x handle base is ∙ some.1, some.1)

    -- what an emit gives
    emitted-lengths : (x base : ℕ) → expression_at typed x ≡ Some (expr.ArrayLength base) → at_use typed base ≡ true →
        number (emitted_value by c w x) ≡ number (array_length look by (value by c w0 base) w0.state)
    emitted-lengths x base is so =
        ap number (emitted-at look by number typed precede w x (expr.ArrayLength base) is)
        ∙ (λ i. number (array_length look by (value-alike look by number typed precede w0 w holds.alike base so i) w.state))
        ∙ holds.alike.lengths (value by c w0 base)

    emitted-unsigned_lengths : (x base : ℕ) → expression_at typed x ≡ Some (expr.ArrayLength base) → at_use typed base ≡ true →
        unsigned_number (emitted_value by c w x) ≡ number (array_length look by (value by c w0 base) w0.state)
    emitted-unsigned_lengths x base is so =
        ap unsigned_number (emitted-at look by number typed precede w x (expr.ArrayLength base) is)
        ∙ respects.unsigned_lengths (value by c w base) w.state
        ∙ (λ i. number (array_length look by (value-alike look by number typed precede w0 w holds.alike base so i) w.state))
        ∙ holds.alike.lengths (value by c w0 base)

    emitted-limits : (x : ℕ) → MayUseEach known_by known (operands_found (expression_at typed x)) → (long : Length) (base : ℕ) → length_at typed base ≡ Some long →
        is_length_less_one typed long base (expression_at typed x >>= difference_of) ≡ true → IsOneLess (emitted_value by c w x) long base
    emitted-limits x may long base is_long so =
        let form = less-form typed long base (expression_at typed x) so in
        let may' : MayUseEach known_by known (form.left ∷ form.right ∷ []) = subst (λ v. MayUseEach known_by known (operands_found v)) form.found_as may in
        let one = unsigned-form (nat_eq 1) (expression_at typed form.right) form.is_one in
        let same : one.0 ≡ 1 = (let t : nat_eq 1 one.0 ≡ true = one.2 in grind (arith, nat_tests)) in
        let right : unsigned_number (value by c w form.right) ≡ Some 1 = unsigned-value form.right one.0 one.1 ∙ ap Some same in
        let left = length-value long base form.left is_long (All-head (MayUse known_by known) form.left (form.right ∷ []) may') form.is_long in (
          left.0,
          ap unsigned_number (emitted-at look by number typed precede w x (expr.Binary Subtract form.left form.right) form.found_as)
              ∙ respects.lessened (value by c w form.left) (value by c w form.right) left.0 w.state left.1 right,
          left.2,
        )

    -- the value of a limit is below the length
    limit-value : (long : Length) (base x : ℕ) → length_at typed base ≡ Some long → MayUse known_by known x → is_limit typed long base x ≡ true →
        (n : ℕ) × (k : ℕ) × (unsigned_number (value by c w x) ≡ Some n) × (count0 long base ≡ Some k) × (n < k)
    limit-value (Fixed k) base x is_long may so =
        let form = unsigned-form (λ n. nat_lt n k) (expression_at typed x) so in
        (form.0, k, unsigned-value x form.0 form.1, refl, (let t : nat_lt form.0 k ≡ true = form.2 in grind (arith, nat_tests)))
    limit-value Counted base x is_long may so =
        let form = less-form typed Counted base (expression_at typed x) so in
        let less = (stored-fine x (expr.Binary Subtract form.left form.right) may form.found_as (λ steady. let e : false ≡ true = steady in cc)).limits Counted base is_long so in
        (less.0, suc less.0, less.1, less.2, omega arith)
    limit-value (Overridden handle) base x is_long may so =
        let form = less-form typed (Overridden handle) base (expression_at typed x) so in
        let less = (stored-fine x (expr.Binary Subtract form.left form.right) may form.found_as (λ steady. let e : false ≡ true = steady in cc)).limits (Overridden handle) base is_long so in
        (less.0, suc less.0, less.1, less.2, omega arith)

    -- the value of a divisor is positive and at most the length
    divisor-value : (long : Length) (base x : ℕ) → MayUse known_by known x → is_divisor typed long base x ≡ true →
        (n : ℕ) × (k : ℕ) × (unsigned_number (value by c w x) ≡ Some (suc n)) × (count0 long base ≡ Some k) × (n < k)
    divisor-value (Fixed k) base x may so =
        let form = unsigned-form (λ n. nat_lt 0 n && nat_le n k) (expression_at typed x) so in
        let tests = both (nat_lt 0 form.0) (nat_le form.0 k) form.2 in
        let positive : suc (form.0 - 1) ≡ form.0 = (let t : nat_lt 0 form.0 ≡ true = tests.0 in grind (arith, nat_tests)) in
        let less : form.0 - 1 < k =
        (let t : nat_lt 0 form.0 ≡ true = tests.0 in let s : nat_le form.0 k ≡ true = tests.1 in grind (arith, nat_tests))
        in
        (form.0 - 1, k, unsigned-value x form.0 form.1 ∙ ap Some (sym positive), refl, less)
    divisor-value (Overridden handle) base x may so = absurd (let e : false ≡ true = so in cc)
    divisor-value Counted base x may so =
        let is = counted-as base x so in
        let fine = stored-fine x (expr.ArrayLength base) may is.0 (λ steady. let e : false ≡ true = steady in cc) in
        let some = has.counted (value by c w0 base) w0.state in
        (some.0, suc some.0, fine.unsigned_lengths base is.0 is.1 ∙ some.1, some.1, omega arith)

    -- the lower limit is at most the upper one
    lower-value : (low high n : ℕ) → are_ordered typed low high ≡ true → unsigned_number (value by c w high) ≡ Some n →
        (m : ℕ) × (unsigned_number (value by c w low) ≡ Some m) × (m ≤ n)
    lower-value low high n ordered is =
        let form = unsigned-form (λ least. nat_eq least 0 || is_unsigned typed (λ number. nat_le least number) high) (expression_at typed low) ordered in (
          form.0,
          unsigned-value low form.0 form.1,
          elim (one-passes (nat_eq form.0 0) (is_unsigned typed (λ number. nat_le form.0 number) high) form.2) [
            | inl zero ↦ (let t : nat_eq form.0 0 ≡ true = zero in grind (arith, nat_tests))
            | inr less ↦
                let found = unsigned-form (λ number. nat_le form.0 number) (expression_at typed high) less in
                let same : Some found.0 ≡ Some n = sym (unsigned-value high found.0 found.1) ∙ is in
                let equal : found.0 ≡ n = cc in
                (let t : nat_le form.0 found.0 ≡ true = found.2 in grind (arith, nat_tests))
          ],
        )

    -- a number that is at most one below the length is below the length
    at-most-below : (long : Length) (base : ℕ) (n k : ℕ) (v : Value) → count0 long base ≡ Some k → n < k → IsAtMost number n v → is_below (number v) (count0 long base) ≡ true
    at-most-below long base n k v count less most =
        let below : nat_lt most.0 k ≡ true = (let small : most.0 ≤ n = most.1 in grind (arith, nat_tests, small, less)) in
        (λ i. is_below (most.2 i) (count i)) ∙ below

    emitted-clamps : (x : ℕ) → MayUseEach known_by known (operands_found (expression_at typed x)) → (long : Length) (base : ℕ) → length_at typed base ≡ Some long →
        is_clamped typed long base x ≡ true → is_below (number (emitted_value by c w x)) (count0 long base) ≡ true
    emitted-clamps x may long base is_long so =
        let form = bounded-form typed long base (expression_at typed x) so in
        let each : MayUseEach known_by known (operands_of form.0) = subst (λ v. MayUseEach known_by known (operands_found v)) form.1 may in
        ap (λ v. is_below (number v) (count0 long base)) (emitted-at look by number typed precede w x form.0 form.1) ∙ go form.2 each
      where
        head : (a b : ℕ) → MayUseEach known_by known (a ∷ b ∷ []) → MayUse known_by known a
        head a b each = All-head (MayUse known_by known) a (b ∷ []) each

        second : (a b : ℕ) → MayUseEach known_by known (a ∷ b ∷ []) → MayUse known_by known b
        second a b each = All-head (MayUse known_by known) b [] (All-tail (MayUse known_by known) a (b ∷ []) each)

        third : (a b d : ℕ) → MayUseEach known_by known (a ∷ b ∷ d ∷ []) → MayUse known_by known d
        third a b d each = second b d (All-tail (MayUse known_by known) a (b ∷ d ∷ []) each)

        go : {e : Expression} → IsBounded typed long base e → MayUseEach known_by known (operands_of e)
            → is_below (number (applied look by e (map (value by c w) (operands_of e)) w.state)) (count0 long base) ≡ true
        go (by_first {arg} {limit} so) each =
            let found = limit-value long base arg is_long (head arg limit each) so in
            at-most-below long base found.0 found.1 _ found.3 found.4 (respects.bounded (value by c w limit) (value by c w arg) found.0 w.state found.2).1
        go (by_second {arg} {limit} so) each =
            let found = limit-value long base limit is_long (second arg limit each) so in
            at-most-below long base found.0 found.1 _ found.3 found.4 (respects.bounded (value by c w arg) (value by c w limit) found.0 w.state found.2).0
        go (by_interval {arg} {low} {high} so ordered) each =
            let found = limit-value long base high is_long (third arg low high each) so in
            let lower = lower-value low high found.0 ordered found.2 in
            at-most-below long base found.0 found.1 _ found.3 found.4
            (respects.clamped (value by c w arg) (value by c w low) (value by c w high) lower.0 found.0 w.state lower.1 found.2 lower.2)
        go (by_left {left} {right} so) each =
            let found = limit-value long base left is_long (head left right each) so in
            at-most-below long base found.0 found.1 _ found.3 found.4 (respects.masked (value by c w right) (value by c w left) found.0 w.state found.2).1
        go (by_right {left} {right} so) each =
            let found = limit-value long base right is_long (second left right each) so in
            at-most-below long base found.0 found.1 _ found.3 found.4 (respects.masked (value by c w left) (value by c w right) found.0 w.state found.2).0
        go (by_divisor {left} {right} so) each =
            let found = divisor-value long base right (second left right each) so in
            at-most-below long base found.0 found.1 _ found.3 found.4 (respects.remainders (value by c w left) (value by c w right) found.0 w.state found.2)

    emitted-fine : (x : ℕ) → MayUseEach known_by known (operands_found (expression_at typed x)) → IsFine x (emitted_value by c w x)
    emitted-fine x may = record { lengths = emitted-lengths x; unsigned_lengths = emitted-unsigned_lengths x; limits = emitted-limits x may; clamps = emitted-clamps x may }

    -- ---- accesses

    abbrev count_now : Length → (base : ℕ) → Option ℕ
    count_now long base = count look by number typed long (value by c w base) w.state

    constant-below : (long : Length) (base n : ℕ) → length_at typed base ≡ Some long → has_part long n ≡ true → is_below (Some n) (count_now long base) ≡ true
    constant-below (Fixed k) base n is_long so = so
    constant-below Counted base n is_long so =
        let some = has.counted (value by c w base) w.state in
        ap (is_below (Some n)) some.1 ∙ (let t : nat_eq n 0 ≡ true = so in grind (arith, nat_tests))
    constant-below (Overridden handle) base n is_long so =
        let some = has.overridden handle w.state (sizes base handle is_long) in
        ap (is_below (Some n)) some.1 ∙ (let t : nat_eq n 0 ≡ true = so in grind (arith, nat_tests))

    constant-fits : (long : Length) (n : ℕ) (t : Bool) → has_part long n ≡ t → misfit_of_constant long n ≡ None → has_part long n ≡ true
    constant-fits long n true is none = is
    constant-fits long n false is none = absurd (let e = ap (λ t. if t then None else Some (Part n)) (sym is) ∙ none in cc)

    -- the length at the start is that of now, where an index is clamped by it
    count-kept : (long : Length) (base index : ℕ) → is_clamped typed long base index ≡ true → count_now long base ≡ count0 long base
    count-kept (Fixed k) base index so = refl
    count-kept Counted base index so =
        (λ i. number (array_length look by (value-alike look by number typed precede w0 w holds.alike base (clamp-at_use typed base index so) i) w.state))
        ∙ holds.alike.lengths (value by c w0 base)
    count-kept (Overridden handle) base index so = ap number (holds.alike.ready (expr.Override handle) [] refl)

    -- ---- positions

    abbrev MayUsePosition : Position → Type 0
    MayUsePosition (Computed index) = MayUse known_by known index
    MayUsePosition (Constant index) = ⊤

    abbrev MayUsePositions : List Position → Type 0
    MayUsePositions [] = ⊤
    MayUsePositions (each ∷ rest) = MayUsePosition each × MayUsePositions rest

    constants : (components : List SwizzleComponent) → MayUsePositions (positions_of components)
    constants [] = tt
    constants (component ∷ rest) = (tt, constants rest)

    clamped-below : (long : Length) (base index : ℕ) → length_at typed base ≡ Some long → MayUse known_by known index → (t : Bool) → is_clamped typed long base index ≡ t →
        (if t then None else Some (Index index)) ≡ None → is_below (number (value by c w index)) (count_now long base) ≡ true
    clamped-below long base index is_long may false so none = absurd (cc)
    clamped-below long base index is_long may true so none =
        let form = bounded-form typed long base (expression_at typed index) so in
        let fine = stored-fine index form.0 may form.1 (bounded-unsteady typed long base form.0 form.2) in
        ap (is_below (number (value by c w index))) (count-kept long base index so) ∙ fine.clamps long base is_long so

    literal-form : (found : Option Expression) (n : ℕ) → (found >>= number_of) ≡ Some n → (written : literal.Literal) × (found ≡ Some (expr.Literal written)) × (u32_of written ≡ Ok n)
    literal-form (Some (expr.Literal written)) n h = (written, refl, go (u32_of written) refl h)
      where
        go : (r : Result ℕ ConstValueError) → u32_of written ≡ r → elim r as (λ _. Option ℕ) [ Ok number ↦ Some number | Err error ↦ None ] ≡ Some n → u32_of written ≡ Ok n
        go (Ok k) is so = is ∙ ap Ok (let same : k ≡ n = cc in same)
        go (Err error) is so = absurd (cc)
    literal-form _ n h = absurd (cc)

    index-below : (long : Length) (base index : ℕ) → length_at typed base ≡ Some long → MayUse known_by known index → (literal : Option ℕ) → (expression_at typed index >>= number_of) ≡ literal →
        misfit_of_index typed long base index literal ≡ None → is_below (number (value by c w index)) (count_now long base) ≡ true
    index-below long base index is_long may None is none = clamped-below long base index is_long may (is_clamped typed long base index) refl none
    index-below long base index is_long may (Some n) is none =
        let form = literal-form (expression_at typed index) n is in
        let value_is : number (value by c w index) ≡ Some n =
        ap number (value-ready look by number typed precede w index (expr.Literal form.0) form.1 refl) ∙ respects.literals form.0 n w.state form.2
        in
        ap (λ v. is_below v (count_now long base)) value_is ∙ constant-below long base n is_long (constant-fits long n (has_part long n) refl none)

    position-below : (long : Length) (base : ℕ) (each : Position) → length_at typed base ≡ Some long → MayUsePosition each → misfit_at typed long base each ≡ None →
        is_below (position look by number typed w each) (count_now long base) ≡ true
    position-below long base (Constant n) is_long may none = constant-below long base n is_long (constant-fits long n (has_part long n) refl none)
    position-below long base (Computed index) is_long may none = index-below long base index is_long may (expression_at typed index >>= number_of) refl none

    positions-below : (long : Length) (base : ℕ) (positions : List Position) → length_at typed base ≡ Some long → MayUsePositions positions → first_misfit typed long base positions ≡ None →
        are_below look by number typed w (count_now long base) positions ≡ true
    positions-below long base [] is_long may none = refl
    positions-below long base (each ∷ rest) is_long may none = go (positions-below long base rest is_long may.1) (misfit_at typed long base each) refl none
      where
        go : (first_misfit typed long base rest ≡ None → are_below look by number typed w (count_now long base) rest ≡ true) → (m : Option Cause) → misfit_at typed long base each ≡ m → elim m as (λ _. Option Cause) [ None ↦ first_misfit typed long base rest | Some cause ↦ Some cause ] ≡ None →
            are_below look by number typed w (count_now long base) (each ∷ rest) ≡ true
        go next None is later = and-true (is_below (position look by number typed w each) (count_now long base)) (are_below look by number typed w (count_now long base) rest)
            (position-below long base each is_long may.0 is) (next later)
        go next (Some cause) is later = absurd (cc)

    -- the length is known, or the access does not fit
    length-found : (reach : Reach) (found : Option Length) → length_at typed reach.base ≡ found → MayUsePositions reach.positions → misfit_in typed (or_unknown found) reach ≡ None →
        are_below look by number typed w (count_at look by number typed w reach.base (length_at typed reach.base)) reach.positions ≡ true
    length-found reach None is may none = absurd (cc)
    length-found reach (Some long) is may none =
        ap (λ found. are_below look by number typed w (count_at look by number typed w reach.base found) reach.positions) is
        ∙ positions-below long reach.base reach.positions is may none

    reach-below : (reach : Reach) → MayUsePositions reach.positions → misfit_of typed (Some reach) ≡ None →
        are_below look by number typed w (count_at look by number typed w reach.base (length_at typed reach.base)) reach.positions ≡ true
    reach-below reach may none = go (contents_at typed reach.base) refl none
      where
        go : (found : Option TypeInner) → contents_at typed reach.base ≡ found → misfit_in typed (length_found typed found) reach ≡ None →
            are_below look by number typed w (count_at look by number typed w reach.base (length_at typed reach.base)) reach.positions ≡ true
        go None is none = absurd (cc)
        go (Some contents) is none = length-found reach (length_reached (inner_at typed.types) contents) (ap (λ v. v >>= length_reached (inner_at typed.types)) is) may none

    access-below : (found : Option Expression) → MayUseEach known_by known (operands_found found) → misfit_of typed (found >>= reach_of) ≡ None →
        is_there look by number typed w (found >>= reach_of) ≡ true
    access-below None may none = refl
    access-below (Some (expr.Access base index)) may none =
        reach-below (record { base = base; positions = Computed index ∷ [] })
        (All-head (MayUse known_by known) index [] (All-tail (MayUse known_by known) base (index ∷ []) may), tt) none
    access-below (Some (expr.AccessIndex base index)) may none = reach-below (record { base = base; positions = Constant index ∷ [] }) (tt, tt) none
    access-below (Some (expr.Swizzle size vector pattern)) may none =
        reach-below (record { base = vector; positions = positions_of (take (components_of size) pattern) }) (constants (take (components_of size) pattern)) none
    access-below (Some _) may none = refl

  -- ---- statements

  module _ (fits : EachFits typed) where
    emit-holds : (xs known : List ℕ) (w : World Value State) → OperandsAreKnown known_by known xs → Holds known w →
        (are_in_bounds look by number typed xs w ≡ true) × Holds (xs ++ known) (emit by c xs w)
    emit-holds [] known w k h = (refl, h)
    emit-holds (x ∷ xs) known w k h =
        let next : World Value State = put x (emitted_value by c w x) w in
        let rest = emit-holds xs (x ∷ known) next k.1 (put-holds x (emitted_value by c w x) known w h (emitted-fine known w h x k.0)) in (
          and-true (is_in_bounds look by number typed w x) (are_in_bounds look by number typed xs next) (access-below known w h (expression_at typed x) k.0 (fits x)) rest.0,
          fewer (Includes-shifted (x ∷ []) xs known) rest.1,
        )

    result-fine : (r : ℕ) (how : Evaluation) → known_by.evaluation r ≡ Some how → (how ≡ way.Emit → ⊥) → (v : Value) → IsFine r v
    result-fine r how is other v = record {
      lengths = λ base found so. absurd (clash (expr.ArrayLength base) found refl);
      unsigned_lengths = λ base found so. absurd (clash (expr.ArrayLength base) found refl);
      limits = λ long base is_long so. let form = less-form typed long base (expression_at typed r) so in absurd (clash (expr.Binary Subtract form.left form.right) form.found_as refl);
      clamps = λ long base is_long so.
          let form = bounded-form typed long base (expression_at typed r) so in
          absurd (clash form.0 form.1 (bounded-emitted typed long base form.0 form.2));
    }
      where
        clash : (e : Expression) → expression_at typed r ≡ Some e → evaluation_of e ≡ way.Emit → ⊥
        clash e found emitted = other (let same : Some how ≡ Some way.Emit = sym is ∙ ap (option_map evaluation_of) found ∙ ap Some emitted in let inner : how ≡ way.Emit = cc in inner)

    acted-holds : (action : Option (StatementForm × List (Option Thing))) (uses : List ℕ) (result : Option ℕ) (known : List ℕ) (w : World Value State) → (action ≡ None → result ≡ None) →
        ((r : ℕ) → result ≡ Some r → (v : Value) → IsFine r v) → Holds known w → Holds (option_to_list result ++ known) (acted by c action uses result w)
    acted-holds None uses result known w none fine h = subst (λ r. Holds (option_to_list r ++ known) w) (sym (none refl)) h
    acted-holds (Some action) uses result known w none fine h = go result refl
      where
        done : State × Value
        done = by.perform action (map (value by c w) uses) w.state

        moved : Holds known (record w { state = done.0 })
        moved = record {
          alike = record {
            lengths = λ array. stay.array_lengths action (map (value by c w) uses) array w.state ∙ h.alike.lengths array;
            ready = λ operator operands steady. stay.ready action (map (value by c w) uses) operator operands w.state steady ∙ h.alike.ready operator operands steady;
          };
          fine = h.fine;
        }

        go : (some : Option ℕ) → result ≡ some → Holds (option_to_list some ++ known) (put_result some done.1 (record w { state = done.0 }))
        go None is = moved
        go (Some r) is = put-holds r done.1 known (record w { state = done.0 }) moved (fine r is done.1)

    performs-holds : (what : Statement) (known : List ℕ) (w : World Value State) → PlainUsesKnown known_by known what → Holds known w →
        (are_in_bounds look by number typed (emitted_by what) w ≡ true) × Holds (evaluated_by what ++ known) (act (parts look) by c what (emit by c (emitted_by what) w))
    performs-holds what known w k h =
        let emitted = emit-holds (emitted_by what) known w k.operands h in (
          emitted.0,
          fewer (result-first (emitted_by what) (option_to_list (result_of what)) known)
              (acted-holds (action_of look what) (used_by what) (result_of what) (emitted_by what ++ known) (emit by c (emitted_by what) w) (no-result look what)
              (λ r is. result-fine r (evaluation_by what) (evaluated r is) (result-way what r is)) emitted.1),
        )
      where
        evaluated : (r : ℕ) → result_of what ≡ Some r → known_by.evaluation r ≡ Some (evaluation_by what)
        evaluated r is =
            All-contains (λ handle. known_by.evaluation handle ≡ Some (evaluation_by what)) (evaluated_by what) r k.evaluated
            (Contains-append_right (emitted_by what) (option_to_list (result_of what)) r (subst (λ found. Contains (option_to_list found) r) (sym is) (Contains-push [] r)))

    -- ---- events

    events-hold : (happened later : List Event) (known : List ℕ) (w : World Value State) → EventsUseKnown known_by known (happened ++ later) → Holds known w →
        (after (watched look by number typed) happened (w, true)).1 ≡ true
    events-hold [] later known w k h = refl
    events-hold (met what ∷ rest) later known w k h =
        let next = performs-holds what known w k.0 h in
        let w' : World Value State = act (parts look) by c what (emit by c (emitted_by what) w) in
        subst (λ b. (after (watched look by number typed) rest (w', b)).1 ≡ true) (sym next.0) (events-hold rest later (evaluated_by what ++ known) w' k.1 next.1)
    events-hold (branched handle ∷ rest) later known w k h = events-hold rest later known w k.1 h
    events-hold (selected handle vs ∷ rest) later known w k h = events-hold rest later known w k.1 h
    events-hold (returned handle ∷ rest) later known w k h = events-hold rest later known w k.1 h

    -- an access is in bounds in each world in which an event evaluates it
    event-below : (before later : List Event) (what : Statement) (known : List ℕ) (w : World Value State) → EventsUseKnown known_by known (before ++ met what ∷ later) → Holds known w →
        are_in_bounds look by number typed (emitted_by what) (after (machine (parts look) by c) before w) ≡ true
    event-below [] later what known w k h = (performs-holds what known w k.0 h).0
    event-below (met other ∷ before) later what known w k h =
        event-below before later what (evaluated_by other ++ known) (act (parts look) by c other (emit by c (emitted_by other) w)) k.1 (performs-holds other known w k.0 h).1
    event-below (branched handle ∷ before) later what known w k h = event-below before later what known w k.1 h
    event-below (selected handle vs ∷ before) later what known w k h = event-below before later what known w k.1 h
    event-below (returned handle ∷ before) later what known w k h = event-below before later what known w k.1 h

    one-below : (first rest : List ℕ) (x : ℕ) (w : World Value State) → are_in_bounds look by number typed (first ++ x ∷ rest) w ≡ true → is_in_bounds look by number typed (emit by c first w) x ≡ true
    one-below [] rest x w below = (both (is_in_bounds look by number typed w x) (are_in_bounds look by number typed rest (put x (emitted_value by c w x) w)) below).0
    one-below (y ∷ first) rest x w below =
        let next : World Value State = put y (emitted_value by c w y) w in
        one-below first rest x next (both (is_in_bounds look by number typed w y) (are_in_bounds look by number typed (first ++ x ∷ rest) next) below).1

    begins : Holds [] w0
    begins = record {
      alike = record { lengths = λ array. refl; ready = λ operator operands steady. refl };
      fine = λ x d. absurd (omega (arith, d.1));
    }

    pub stays-in-bounds : (block : Tree) → UsesKnown known_by [] block → (turns : ℕ) → StaysInBounds look by number typed turns block w0
    stays-in-bounds block uses turns =
        let begun = does-IsABeginning (watched look by number typed) turns block (w0, true) in
        let k : EventsUseKnown known_by [] (begun.happened ++ begun.later) = subst (EventsUseKnown known_by []) begun.fits.1 (BlockRuns-uses known_by [] [] begun.fits.0 Includes-itself uses) in
        ap (λ noted. noted.1) begun.state ∙ events-hold begun.happened begun.later [] w0 k begins

    -- each access is in bounds when it is evaluated
    pub accesses-below : (block : Tree) → UsesKnown known_by [] block → (turns : ℕ) (left : Done (World Value State)) (begun : IsABeginning (machine (parts look) by c) turns block w0 left)
        (before later : List Event) (what : Statement) → begun.happened ≡ before ++ met what ∷ later → (first rest : List ℕ) (x : ℕ) → emitted_by what ≡ first ++ x ∷ rest →
        is_in_bounds look by number typed (emit by c first (after (machine (parts look) by c) before w0)) x ≡ true
    accesses-below block uses turns left begun before later what at first rest x split =
        let k : EventsUseKnown known_by [] (begun.happened ++ begun.later) = subst (EventsUseKnown known_by []) begun.fits.1 (BlockRuns-uses known_by [] [] begun.fits.0 Includes-itself uses) in
        let there : begun.happened ++ begun.later ≡ before ++ met what ∷ (later ++ begun.later) = ap (λ happened. happened ++ begun.later) at ∙ append_assoc before (met what ∷ later) begun.later in
        let w = after (machine (parts look) by c) before w0 in
        one-below first rest x w
        (subst (λ xs. are_in_bounds look by number typed xs w ≡ true) split
        (event-below before (later ++ begun.later) what [] w0 (subst (EventsUseKnown known_by []) there k) begins))
