-- Calls change no length of an array, if no other statement does.
use Rattle.std.proofs.Common.{◌≡◌, ◌∙◌, sym, subst, refl, ℕ, zero, suc, List, [], ◌∷◌, map, Option, Some, None}
use Rattle.std.specs.Prelude.{option_and_then, option_map}
use Rattle.naga_ir.specs.declared.statement.Statement.{Statement}
use Rattle.naga_valid.specs.declared.reference.Reference.{Reference}
use Rattle.naga_runs.specs.declared.run.Ending.{Ending}
use Rattle.naga_runs.specs.declared.run.Ending.TheVariants.{Normal}
use Rattle.naga_flow.specs.Results.{emitted_by, result_of, used_by}
use Rattle.naga_meaning.specs.Calls.{Calls, blank, called, callee_of, perform_by, seen}
use Rattle.naga_meaning.specs.Closing.{closed_by}
use Rattle.naga_meaning.specs.Forms.{ExpressionForm, StatementForm}
use Rattle.naga_meaning.specs.Functions.{Meanings, action_of, code_of, initials, meaning, parts}
use Rattle.naga_meaning.specs.Readings.{Reading}
use Rattle.naga_meaning.specs.Values.{Code, Outcome, World, acted, constant, emit, emitted_value, entered, machine, put, value}
use Rattle.naga_bounds.specs.Calls.{CallsKeepLengths, HasLengthsOf, HasReadyOf}
use Rattle.naga_bounds.specs.Respects.{HasElements, LengthsStay, RespectsIndices}
use Rattle.naga_bounds.proofs.DoesLemmas.{does-keeps}

module _ {Thing Value State : Type 0} (look : Reference → Thing) (by : Meanings Thing Value State) (number : Value → Option ℕ) where
  abbrev Lengths : (before after : State) → Type 0
  Lengths = HasLengthsOf look by number

  abbrev Ready : (before after : State) → Type 0
  Ready = HasReadyOf look by number

  abbrev Action : Type 0
  Action = StatementForm × List (Option Thing)

  -- what is performed in this way changes no length, and nothing that is ready
  record Stays (perform : Action → List Value → State → State × Value) : Type 0 where
    pub lengths : (action : Action) (values : List Value) (state : State) → Lengths state (perform action values state).0
    pub ready : (action : Action) (values : List Value) (state : State) → Ready state (perform action values state).0

  -- ---- bodies

  module _ (inner : Meanings Thing Value State) (enters : inner.enter ≡ by.enter) (stays : Stays inner.perform) (begun : State) where
    abbrev Kept : World Value State → Type 0
    Kept w = Lengths begun w.state

    module _ (code : Code (Option (ExpressionForm × List (Option Thing)))) where
      emit-kept : (handles : List ℕ) (w : World Value State) → Kept w → Kept (emit inner code handles w)
      emit-kept [] w h = h
      emit-kept (handle ∷ rest) w h = emit-kept rest (put handle (emitted_value inner code w handle) w) h

      after-action : (action : Action) (uses : List ℕ) (w : World Value State) → Kept w → Lengths begun (inner.perform action (map (value inner code w) uses) w.state).0
      after-action action uses w h = λ array. stays.lengths action (map (value inner code w) uses) w.state array ∙ h array

      acted-kept : (action : Option Action) (uses : List ℕ) (result : Option ℕ) (w : World Value State) → Kept w → Kept (acted inner code action uses result w)
      acted-kept None uses result w h = h
      acted-kept (Some action) uses None w h = after-action action uses w h
      acted-kept (Some action) uses (Some handle) w h = after-action action uses w h

      performs-kept : (what : Statement) (w : World Value State) → Kept w → Kept ((machine (parts look) inner code).perform what w)
      performs-kept what w h =
          acted-kept (action_of look what) (used_by what) (result_of what) (emit inner code (emitted_by what) w) (emit-kept (emitted_by what) w h)

    meaning-kept : (enters_kept : (inits : List (Option Value)) (state : State) → Lengths state (by.enter inits state)) (turns : ℕ) (read : Reading) (w : World Value State) →
        Kept w → Lengths begun (meaning look inner turns read w).state
    meaning-kept enters_kept turns read w h =
        let code = code_of look read.at_use read.expressions in
        let inits = map (option_map (constant inner code w)) (initials read.local_variables) in
        let begins : Lengths begun (inner.enter inits w.state) =
        subst (λ (enter : List (Option Value) → State → State). Lengths begun (enter inits w.state)) (sym enters) (λ array. enters_kept inits w.state array ∙ h array)
        in
        does-keeps (machine (parts look) inner code) Kept (performs-kept code) turns read.body (entered inner code (initials read.local_variables) w) begins

  closed-kept : (before : State) (ending : Ending) (left : Outcome Value State) → Lengths before left.state → Lengths before (closed_by ending left).state
  closed-kept before Normal left h = h
  closed-kept before _ left h = h

  -- ---- calls

  module _ (find : Thing → Option Reading) (calls : Calls Thing Value State) (turns : ℕ) (stay : LengthsStay look by number) (keep : CallsKeepLengths look by number calls) where
    enters-same : (depth : ℕ) → (called look find calls by turns depth).enter ≡ by.enter
    enters-same zero = refl
    enters-same (suc depth) = refl

    module _ (inner : Meanings Thing Value State) (enters : inner.enter ≡ by.enter) (stays : Stays inner.perform) where
      seen-kept : (read : Reading) (thing : Thing) (values : List Value) (state : State) →
          Lengths (calls.begin thing values state).0 (seen look find calls by turns inner read thing values state).state
      seen-kept read thing values state =
          let begun = calls.begin thing values state in
          let left = meaning look inner turns read (blank begun) in
          closed-kept begun.0 left.ending left (meaning-kept inner enters stays begun.0 keep.enters turns read (blank begun) (λ array. refl))

      performed-lengths : (found : Option Reading) (thing : Option Thing) (action : Action) (values : List Value) (state : State) →
          Lengths state (perform_by look find calls by turns inner found thing action values state).0
      performed-lengths (Some read) (Some thing) action values state =
          keep.lengths thing values state (seen look find calls by turns inner read thing values state) (seen-kept read thing values state)
      performed-lengths (Some read) None action values state = λ array. stay.array_lengths action values array state
      performed-lengths None thing action values state = λ array. stay.array_lengths action values array state

      performed-ready : (found : Option Reading) (thing : Option Thing) (action : Action) (values : List Value) (state : State) →
          Ready state (perform_by look find calls by turns inner found thing action values state).0
      performed-ready (Some read) (Some thing) action values state =
          keep.ready thing values state (seen look find calls by turns inner read thing values state) (seen-kept read thing values state)
      performed-ready (Some read) None action values state = λ operator operands steady. stay.ready action values operator operands state steady
      performed-ready None thing action values state = λ operator operands steady. stay.ready action values operator operands state steady

    called-stays : (depth : ℕ) → Stays (called look find calls by turns depth).perform
    called-stays zero = record {
      lengths = λ action values state array. stay.array_lengths action values array state;
      ready = λ action values state operator operands steady. stay.ready action values operator operands state steady;
    }
    called-stays (suc depth) =
        let inner = called look find calls by turns depth in
        record {
          lengths = λ action values state. performed-lengths inner (enters-same depth) (called-stays depth) (option_and_then find (callee_of action)) (callee_of action) action values state;
          ready = λ action values state. performed-ready inner (enters-same depth) (called-stays depth) (option_and_then find (callee_of action)) (callee_of action) action values state;
        }

    pub called-lengths-stay : (depth : ℕ) → LengthsStay look (called look find calls by turns depth) number
    called-lengths-stay zero = stay
    called-lengths-stay (suc depth) = record {
      array_lengths = λ action values array state. (called-stays (suc depth)).lengths action values state array;
      ready = λ action values operator operands state steady. (called-stays (suc depth)).ready action values state operator operands steady;
    }

    pub called-respects : (unsigned_number : Value → Option ℕ) → RespectsIndices look by number unsigned_number → (depth : ℕ) →
        RespectsIndices look (called look find calls by turns depth) number unsigned_number
    called-respects unsigned_number h zero = h
    called-respects unsigned_number h (suc depth) =
        record { literals = h.literals; unsigned_literals = h.unsigned_literals; bounded = h.bounded; masked = h.masked; clamped = h.clamped; remainders = h.remainders; unsigned_lengths = h.unsigned_lengths; lessened = h.lessened }

    pub called-elements : (IsSize : ℕ → Type 0) → HasElements look by number IsSize → (depth : ℕ) → HasElements look (called look find calls by turns depth) number IsSize
    called-elements IsSize h zero = h
    called-elements IsSize h (suc depth) = record { counted = h.counted; overridden = h.overridden }
