-- Clamping the accesses of all functions keeps the outcomes of executions that are in bounds with all their calls.
use Rattle.std.proofs.Common.{◌≡◌, ◌∙◌, inl, inr, sym, ap, subst, refl, ℕ, zero, suc, true, List, Option, Some, None}
use Rattle.std.specs.Prelude.{◌⊎◌, option_and_then, option_map}
use Rattle.naga_ir.specs.View.{tree_of}
use Rattle.naga_ir.specs.declared.module.Function as function
use Rattle.naga_ir.specs.declared.module.Module as the_module
use Rattle.naga_valid.specs.declared.reference.Reference.{Reference}
use Rattle.naga_meaning.specs.Calls.{Calls, blank, callee_of, perform_by, seen, stop_by, stop_of}
use Rattle.naga_meaning.specs.Closing.{closed_outcome}
use Rattle.naga_meaning.specs.Forms.{ExpressionForm, StatementForm}
use Rattle.naga_meaning.specs.Functions.{Meanings, code_of, initials, meaning, parts}
use Rattle.naga_meaning.specs.Machine.{Stop, does}
use Rattle.naga_meaning.specs.Readings.{Reading, read_by}
use Rattle.naga_meaning.specs.Values.{Code, Outcome, World, entered, outcome}
use Rattle.naga_bounds.specs.CalledOutcomes.{AreClampedIn, IsClampedIn, Note, StaysInBoundsWithCalls, call_stays, called_to, callee_stays, read, watched_with}
use Rattle.naga_bounds.specs.Modules.{typed_in}
use Rattle.naga_bounds.specs.Reach.{at_use}
use Rattle.naga_bounds.specs.Respects.{RespectsClamps, RespectsIndices}
use Rattle.naga_bounds.specs.RestrictedLaws.{AreSameAt, RestrictingKeepsOutcomes}
use Rattle.naga_bounds.specs.Watched.{StaysInBounds}
use Rattle.naga_bounds.proofs.AgreesLemmas.{entered-same, other, outcome-other, stays-other}

module _ {Thing Value State : Type 0} (kept : RestrictingKeepsOutcomes Thing Value State) (whole : the_module.Module) (look : Reference → Thing) (number unsigned_number : Value → Option ℕ)
    (calls : Calls Thing Value State) (turns : ℕ) where
  abbrev Action : Type 0
  Action = StatementForm × List (Option Thing)

  abbrev reading : function.Function → Reading
  reading inside = read_by (at_use (typed_in whole inside)) inside

  abbrev code : function.Function → Code (Option (ExpressionForm × List (Option Thing)))
  code inside = code_of look (at_use (typed_in whole inside)) inside.expressions

  -- ---- a function whose calls agree

  module _ (inner : Meanings Thing Value State) (perform : Action → List Value → State → State × Value) (stop : Action → List Value → State → Option Stop) (fine : Note Thing Value State)
      (performs : (action : Action) (values : List Value) (state : State) → fine action values state ≡ true → perform action values state ≡ inner.perform action values state)
      (stops : (action : Action) (values : List Value) (state : State) → fine action values state ≡ true → stop action values state ≡ inner.stop action values state)
      (respects : RespectsIndices look inner number unsigned_number) (clamps : RespectsClamps look inner number unsigned_number) where
    abbrev after : Meanings Thing Value State
    after = other look inner perform stop

    respects-after : RespectsIndices look after number unsigned_number
    respects-after = record { literals = respects.literals; unsigned_literals = respects.unsigned_literals; bounded = respects.bounded; masked = respects.masked; clamped = respects.clamped; remainders = respects.remainders; unsigned_lengths = respects.unsigned_lengths; lessened = respects.lessened }

    clamps-after : RespectsClamps look after number unsigned_number
    clamps-after = record { minima = clamps.minima; converted = clamps.converted; elements = clamps.elements; counted_elements = clamps.counted_elements; overridden_elements = clamps.overridden_elements }

    agreeing-kept : (old new : function.Function) (pair : IsClampedIn whole look inner number old new) (start start' : World Value State) → AreSameAt pair.clamped.changes old start start' →
        (does (watched_with look inner number fine (typed_in whole old)) turns (tree_of old.body) (entered inner (code old) (initials old.local_variables) start, true)).state.1 ≡ true →
        meaning look after turns (reading new) start' ≡ meaning look inner turns (reading old) start
    agreeing-kept old new pair start start' same good =
        let begun = entered inner (code old) (initials old.local_variables) start in
        let begins : entered after (code old) (initials old.local_variables) start ≡ begun = entered-same look inner perform stop (code old) (initials old.local_variables) start in
        let stays : StaysInBounds look after number (typed_in whole old) turns (tree_of old.body) (entered after (code old) (initials old.local_variables) start) =
        subst (StaysInBounds look after number (typed_in whole old) turns (tree_of old.body)) (sym begins)
        (stays-other look inner perform stop number fine (typed_in whole old) performs stops turns (tree_of old.body) begun good)
        in
        kept whole old new pair.functions pair.within pair.handles pair.typed pair.clamped pair.initial_values look after number unsigned_number respects-after clamps-after
        (record { counted = pair.elements.counted; overridden = pair.elements.overridden }) (record { counted = pair.lengths.counted; overridden = pair.lengths.overridden })
        turns start start' same stays
        ∙ ap (outcome (parts look) after (code old) turns (tree_of old.body)) begins
        ∙ outcome-other look inner perform stop number fine (typed_in whole old) performs stops turns (tree_of old.body) begun good

    agreeing-same : (inside : function.Function) (start : World Value State) →
        (does (watched_with look inner number fine (typed_in whole inside)) turns (tree_of inside.body) (entered inner (code inside) (initials inside.local_variables) start, true)).state.1 ≡ true →
        meaning look after turns (reading inside) start ≡ meaning look inner turns (reading inside) start
    agreeing-same inside start good =
        let begun = entered inner (code inside) (initials inside.local_variables) start in
        let begins : entered after (code inside) (initials inside.local_variables) start ≡ begun = entered-same look inner perform stop (code inside) (initials inside.local_variables) start in
        ap (outcome (parts look) after (code inside) turns (tree_of inside.body)) begins
        ∙ outcome-other look inner perform stop number fine (typed_in whole inside) performs stops turns (tree_of inside.body) begun good

  -- ---- calls

  module _ (by : Meanings Thing Value State) (respects : RespectsIndices look by number unsigned_number) (clamps : RespectsClamps look by number unsigned_number)
      (find find' : Thing → Option function.Function) (pairs : (thing : Thing) → AreClampedIn whole look by number (find thing) (find' thing)) where
    abbrev before : ℕ → Meanings Thing Value State
    before = called_to whole look find calls by number turns

    abbrev clamped : ℕ → Meanings Thing Value State
    clamped = called_to whole look find' calls by number turns

    -- what is kept at a depth
    abbrev Keeps : ℕ → Type 0
    Keeps depth =
        (old new : function.Function) (pair : IsClampedIn whole look by number old new) (start start' : World Value State) → AreSameAt pair.clamped.changes old start start' →
        StaysInBoundsWithCalls whole look find calls by number turns depth old start → meaning look (clamped depth) turns (reading new) start' ≡ meaning look (before depth) turns (reading old) start

    abbrev KeepsSame : ℕ → Type 0
    KeepsSame depth =
        (inside : function.Function) (start : World Value State) →
        StaysInBoundsWithCalls whole look find calls by number turns depth inside start → meaning look (clamped depth) turns (reading inside) start ≡ meaning look (before depth) turns (reading inside) start

    module _ (depth : ℕ) (keeps : Keeps depth) (keeps-same : KeepsSame depth) (values : List Value) (state : State) where
      -- what is left of a function that is called
      left-same : (old new : function.Function) → (new ≡ old) ⊎ IsClampedIn whole look by number old new → (thing : Thing) →
          callee_stays whole look find calls by number turns (before depth) (call_stays whole look find calls by number turns depth) (Some old) (Some thing) values state ≡ true →
          seen look (read whole look find' calls by number turns) calls by turns (clamped depth) (reading new) thing values state
          ≡ seen look (read whole look find calls by number turns) calls by turns (before depth) (reading old) thing values state
      left-same old new (inl same) thing h =
          let begun : World Value State = blank (calls.begin thing values state) in
          ap closed_outcome
          (subst (λ (f : function.Function). meaning look (clamped depth) turns (reading f) begun ≡ meaning look (before depth) turns (reading old) begun) (sym same) (keeps-same old begun h))
      left-same old new (inr pair) thing h =
          let begun : World Value State = blank (calls.begin thing values state) in
          ap closed_outcome (keeps old new pair begun begun (record { state = refl; values = λ x inside. refl }) h)

      performs-found : (action : Action) (found found' : Option function.Function) → AreClampedIn whole look by number found found' → (thing : Thing) →
          callee_stays whole look find calls by number turns (before depth) (call_stays whole look find calls by number turns depth) found (Some thing) values state ≡ true →
          perform_by look (read whole look find' calls by number turns) calls by turns (clamped depth) (option_map reading found') (Some thing) action values state
          ≡ perform_by look (read whole look find calls by number turns) calls by turns (before depth) (option_map reading found) (Some thing) action values state
      performs-found action None None pair thing h = refl
      performs-found action (Some old) (Some new) pair thing h = ap (λ left. calls.finish left state) (left-same old new pair thing h)
      performs-found action None (Some new) pair thing h = absurd pair
      performs-found action (Some old) None pair thing h = absurd pair

      stops-found : (action : Action) (found found' : Option function.Function) → AreClampedIn whole look by number found found' → (thing : Thing) →
          callee_stays whole look find calls by number turns (before depth) (call_stays whole look find calls by number turns depth) found (Some thing) values state ≡ true →
          stop_by look (read whole look find' calls by number turns) calls by turns (clamped depth) (option_map reading found') (Some thing) action values state
          ≡ stop_by look (read whole look find calls by number turns) calls by turns (before depth) (option_map reading found) (Some thing) action values state
      stops-found action None None pair thing h = refl
      stops-found action (Some old) (Some new) pair thing h = ap (λ (left : Outcome Value State). stop_of left.ending) (left-same old new pair thing h)
      stops-found action None (Some new) pair thing h = absurd pair
      stops-found action (Some old) None pair thing h = absurd pair

      performs-callee : (action : Action) (callee : Option Thing) →
          callee_stays whole look find calls by number turns (before depth) (call_stays whole look find calls by number turns depth) (option_and_then find callee) callee values state ≡ true →
          perform_by look (read whole look find' calls by number turns) calls by turns (clamped depth) (option_and_then (read whole look find' calls by number turns) callee) callee action values state
          ≡ perform_by look (read whole look find calls by number turns) calls by turns (before depth) (option_and_then (read whole look find calls by number turns) callee) callee action values state
      performs-callee action None h = refl
      performs-callee action (Some thing) h = performs-found action (find thing) (find' thing) (pairs thing) thing h

      stops-callee : (action : Action) (callee : Option Thing) →
          callee_stays whole look find calls by number turns (before depth) (call_stays whole look find calls by number turns depth) (option_and_then find callee) callee values state ≡ true →
          stop_by look (read whole look find' calls by number turns) calls by turns (clamped depth) (option_and_then (read whole look find' calls by number turns) callee) callee action values state
          ≡ stop_by look (read whole look find calls by number turns) calls by turns (before depth) (option_and_then (read whole look find calls by number turns) callee) callee action values state
      stops-callee action None h = refl
      stops-callee action (Some thing) h = stops-found action (find thing) (find' thing) (pairs thing) thing h

    kept-at : (depth : ℕ) → Keeps depth × KeepsSame depth
    kept-at zero = (
      λ old new pair start start' same stays.
          agreeing-kept by by.perform by.stop (call_stays whole look find calls by number turns zero) (λ action values state fine. refl) (λ action values state fine. refl) respects clamps
          old new pair start start' same stays,
      λ inside start stays.
          agreeing-same by by.perform by.stop (call_stays whole look find calls by number turns zero) (λ action values state fine. refl) (λ action values state fine. refl) respects clamps
          inside start stays,
    )
    kept-at (suc depth) =
        let both : Keeps depth × KeepsSame depth = kept-at depth in (
          λ old new pair start start' same stays.
              agreeing-kept (before (suc depth)) (clamped (suc depth)).perform (clamped (suc depth)).stop (call_stays whole look find calls by number turns (suc depth))
              (λ action values state fine. performs-callee depth both.0 both.1 values state action (callee_of action) fine)
              (λ action values state fine. stops-callee depth both.0 both.1 values state action (callee_of action) fine)
              (record { literals = respects.literals; unsigned_literals = respects.unsigned_literals; bounded = respects.bounded; masked = respects.masked; clamped = respects.clamped; remainders = respects.remainders; unsigned_lengths = respects.unsigned_lengths; lessened = respects.lessened })
              (record { minima = clamps.minima; converted = clamps.converted; elements = clamps.elements; counted_elements = clamps.counted_elements; overridden_elements = clamps.overridden_elements })
              old new
              (record {
                functions = pair.functions;
                within = pair.within;
                handles = pair.handles;
                typed = pair.typed;
                clamped = pair.clamped;
                initial_values = pair.initial_values;
                elements = record { counted = pair.elements.counted; overridden = pair.elements.overridden };
                lengths = record { counted = pair.lengths.counted; overridden = pair.lengths.overridden };
              })
              start start' same stays,
          λ inside start stays.
              agreeing-same (before (suc depth)) (clamped (suc depth)).perform (clamped (suc depth)).stop (call_stays whole look find calls by number turns (suc depth))
              (λ action values state fine. performs-callee depth both.0 both.1 values state action (callee_of action) fine)
              (λ action values state fine. stops-callee depth both.0 both.1 values state action (callee_of action) fine)
              (record { literals = respects.literals; unsigned_literals = respects.unsigned_literals; bounded = respects.bounded; masked = respects.masked; clamped = respects.clamped; remainders = respects.remainders; unsigned_lengths = respects.unsigned_lengths; lessened = respects.lessened })
              (record { minima = clamps.minima; converted = clamps.converted; elements = clamps.elements; counted_elements = clamps.counted_elements; overridden_elements = clamps.overridden_elements })
              inside start stays,
        )

    pub keeps-at : (depth : ℕ) → Keeps depth
    keeps-at depth = (kept-at depth).0

    pub same-at : (depth : ℕ) → KeepsSame depth
    same-at depth = (kept-at depth).1
