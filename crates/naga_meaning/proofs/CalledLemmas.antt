-- Calls of functions that mean the same to callers do the same.
use Rattle.std.proofs.Common.{◌≡◌, ◌∙◌, ap, refl, ℕ, zero, suc, List, Option, Some, None}
use Rattle.std.specs.Prelude.{option_and_then}
use Rattle.naga_valid.specs.declared.reference.Reference.{Reference}
use Rattle.naga_meaning.specs.Calls.{callee_of, blank, Calls, stop_of, seen, perform_by, stop_by, called, MeanTheSame, MeanTheSameToCallers}
use Rattle.naga_meaning.specs.Closing.{closed_outcome}
use Rattle.naga_meaning.specs.Forms.{StatementForm}
use Rattle.naga_meaning.specs.Readings.{Reading}
use Rattle.naga_meaning.specs.Functions.{Meanings, meaning}
use Rattle.naga_meaning.specs.Values.{Outcome}

module _ {Thing Value State : Type 0} (look look' : Reference → Thing) (find find' : Thing → Option Reading) (calls : Calls Thing Value State) (by : Meanings Thing Value State) (turns : ℕ)
    (same : (thing : Thing) → MeanTheSameToCallers Value State look look' (find thing) (find' thing)) where
  module _ (inner inner' : Meanings Thing Value State) (is : inner' ≡ inner) where
    seen-same : (old new : Reading) → MeanTheSameToCallers Value State look look' (Some old) (Some new) → (thing : Thing) (values : List Value) (state : State) →
        seen look' find' calls by turns inner' new thing values state ≡ seen look find calls by turns inner old thing values state
    seen-same old new h thing values state =
        ap (λ i. closed_outcome (meaning look' i turns new (blank (calls.begin thing values state)))) is ∙ h inner turns (calls.begin thing values state)

    performs-same : (old new : Option Reading) → MeanTheSameToCallers Value State look look' old new → (thing : Option Thing) (action : StatementForm × List (Option Thing)) (values : List Value) (state : State) →
        perform_by look' find' calls by turns inner' new thing action values state ≡ perform_by look find calls by turns inner old thing action values state
    performs-same None None h thing action values state = refl
    performs-same None (Some new) h thing action values state = absurd h
    performs-same (Some old) None h thing action values state = absurd h
    performs-same (Some old) (Some new) h None action values state = refl
    performs-same (Some old) (Some new) h (Some thing) action values state = ap (λ outcome. calls.finish outcome state) (seen-same old new h thing values state)

    stops-same : (old new : Option Reading) → MeanTheSameToCallers Value State look look' old new → (thing : Option Thing) (action : StatementForm × List (Option Thing)) (values : List Value) (state : State) →
        stop_by look' find' calls by turns inner' new thing action values state ≡ stop_by look find calls by turns inner old thing action values state
    stops-same None None h thing action values state = refl
    stops-same None (Some new) h thing action values state = absurd h
    stops-same (Some old) None h thing action values state = absurd h
    stops-same (Some old) (Some new) h None action values state = refl
    stops-same (Some old) (Some new) h (Some thing) action values state = ap (λ (outcome : Outcome Value State). stop_of outcome.ending) (seen-same old new h thing values state)

  found-same : (thing : Option Thing) → MeanTheSameToCallers Value State look look' (option_and_then find thing) (option_and_then find' thing)
  found-same None = tt
  found-same (Some thing) = same thing

  pub called-same : (depth : ℕ) → called look' find' calls by turns depth ≡ called look find calls by turns depth
  called-same zero = refl
  called-same (suc depth) = λ i. record {
    compute = by.compute;
    perform = λ action values state.
        performs-same (called look find calls by turns depth) (called look' find' calls by turns depth) (called-same depth)
        (option_and_then find (callee_of action)) (option_and_then find' (callee_of action)) (found-same (callee_of action)) (callee_of action) action values state i;
    stop = λ action values state.
        stops-same (called look find calls by turns depth) (called look' find' calls by turns depth) (called-same depth)
        (option_and_then find (callee_of action)) (option_and_then find' (callee_of action)) (found-same (callee_of action)) (callee_of action) action values state i;
    decide = by.decide;
    choose = by.choose;
    enter = by.enter;
  }

  -- a function that means the same also does so where calls have the meanings of the functions that are called
  pub meaning-called : (old new : Reading) → MeanTheSame Value State look look' (Some old) (Some new) → (depth : ℕ) (start : State × Value) →
      meaning look' (called look' find' calls by turns depth) turns new (blank start) ≡ meaning look (called look find calls by turns depth) turns old (blank start)
  meaning-called old new h depth start =
      ap (λ i. meaning look' i turns new (blank start)) (called-same depth) ∙ h (called look find calls by turns depth) turns start

  -- and so does one that means the same to callers
  pub meaning-called_closed : (old new : Reading) → MeanTheSameToCallers Value State look look' (Some old) (Some new) → (depth : ℕ) (start : State × Value) →
      closed_outcome (meaning look' (called look' find' calls by turns depth) turns new (blank start)) ≡ closed_outcome (meaning look (called look find calls by turns depth) turns old (blank start))
  meaning-called_closed old new h depth start =
      ap (λ i. closed_outcome (meaning look' i turns new (blank start))) (called-same depth) ∙ h (called look find calls by turns depth) turns start
