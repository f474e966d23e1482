-- Outcomes after passes depend only on which closings are among them.
use Rattle.std.proofs.Common.{◌≡◌, ◌∙◌, ap, refl, Bool, true, false, List, ◌++◌, [], ◌∷◌, Option}
use Rattle.std.proofs.lemmas.List.Elements.{All-head, All-tail}
use Rattle.std.specs.List.{All}
use Rattle.std.specs.Prelude.{◌≢◌}
use Rattle.naga_runs.specs.declared.run.Ending.{Ending}
use Rattle.naga_runs.specs.declared.run.Ending.TheVariants.{Normal, Break, Continue, Return, Kill, Cut}
use Rattle.naga_proc.specs.declared.terminator.rule.Rule.TheVariants.{New, Old}
use Rattle.naga_meaning.specs.Closing.{closed_outcome, turned_outcome}
use Rattle.naga_meaning.specs.Values.{Outcome}
use Rattle.naga_meaning.proofs.ClosedOutcomeLemmas.{closed-again, closed-turned}
use Rattle.naga_passes.specs.Meanings.{outcome_after, outcome_by}
use Rattle.naga_passes.specs.Runs.{InsertsNothing}
use Rattle.naga_passes.specs.declared.pass.Pass.{Pass}
use Rattle.naga_passes.specs.declared.pass.Pass.TheVariants.{Cull, Close, Compact, Restrict}

-- the pass does not close by the new rule
abbrev IsNotNew : Pass → Type 0
IsNotNew pass = pass ≢ Close New

module _ {Value State : Type 0} where
  -- ---- closing and then closing by the old rule

  module _ (state : State) (returned : Option Value) where
    abbrev ended : Ending → Bool → Outcome Value State
    ended ending slipped = record { state = state; ending = ending; slipped = slipped; returned = returned }

    turned_ended-closed : (ending : Ending) (slipped : Bool) → turned_outcome (closed_outcome (ended ending slipped)) ≡ closed_outcome (ended ending slipped)
    turned_ended-closed Normal slipped = refl
    turned_ended-closed Break slipped = refl
    turned_ended-closed Continue slipped = refl
    turned_ended-closed (Return value) slipped = refl
    turned_ended-closed Kill slipped = refl
    turned_ended-closed Cut slipped = refl

    turned_ended-turned : (ending : Ending) (slipped : Bool) → turned_outcome (turned_outcome (ended ending slipped)) ≡ turned_outcome (ended ending slipped)
    turned_ended-turned Normal true = refl
    turned_ended-turned Normal false = refl
    turned_ended-turned Break slipped = refl
    turned_ended-turned Continue slipped = refl
    turned_ended-turned (Return value) slipped = refl
    turned_ended-turned Kill slipped = refl
    turned_ended-turned Cut slipped = refl

  -- ---- one pass

  closed-by : (pass : Pass) (outcome : Outcome Value State) → closed_outcome (outcome_by pass outcome) ≡ closed_outcome outcome
  closed-by Cull outcome = refl
  closed-by (Close New) outcome = closed-again outcome
  closed-by (Close Old) outcome = closed-turned outcome
  closed-by (Compact keep_unused) outcome = refl
  closed-by Restrict outcome = refl

  by-closed : (pass : Pass) (outcome : Outcome Value State) → outcome_by pass (closed_outcome outcome) ≡ closed_outcome outcome
  by-closed Cull outcome = refl
  by-closed (Close New) outcome = closed-again outcome
  by-closed (Close Old) outcome = turned_ended-closed outcome.state outcome.returned outcome.ending outcome.slipped
  by-closed (Compact keep_unused) outcome = refl
  by-closed Restrict outcome = refl

  turned-by : (pass : Pass) → IsNotNew pass → (outcome : Outcome Value State) → turned_outcome (outcome_by pass outcome) ≡ turned_outcome outcome
  turned-by Cull other outcome = refl
  turned-by (Close New) other outcome = absurd (other refl)
  turned-by (Close Old) other outcome = turned_ended-turned outcome.state outcome.returned outcome.ending outcome.slipped
  turned-by (Compact keep_unused) other outcome = refl
  turned-by Restrict other outcome = refl

  by-turned : (pass : Pass) → IsNotNew pass → (outcome : Outcome Value State) → outcome_by pass (turned_outcome outcome) ≡ turned_outcome outcome
  by-turned Cull other outcome = refl
  by-turned (Close New) other outcome = absurd (other refl)
  by-turned (Close Old) other outcome = turned_ended-turned outcome.state outcome.returned outcome.ending outcome.slipped
  by-turned (Compact keep_unused) other outcome = refl
  by-turned Restrict other outcome = refl

  by-nothing : (pass : Pass) → InsertsNothing pass → (outcome : Outcome Value State) → outcome_by pass outcome ≡ outcome
  by-nothing Cull inserts outcome = refl
  by-nothing (Close rule) inserts outcome = absurd inserts
  by-nothing (Compact keep_unused) inserts outcome = refl
  by-nothing Restrict inserts outcome = refl

  -- ---- several passes

  outcome_after-append : (before after : List Pass) (outcome : Outcome Value State) → outcome_after (before ++ after) outcome ≡ outcome_after after (outcome_after before outcome)
  outcome_after-append [] after outcome = refl
  outcome_after-append (pass ∷ before) after outcome = outcome_after-append before after (outcome_by pass outcome)

  pub closed-after : (passes : List Pass) (outcome : Outcome Value State) → closed_outcome (outcome_after passes outcome) ≡ closed_outcome outcome
  closed-after [] outcome = refl
  closed-after (pass ∷ others) outcome = closed-after others (outcome_by pass outcome) ∙ closed-by pass outcome

  after-closed : (passes : List Pass) (outcome : Outcome Value State) → outcome_after passes (closed_outcome outcome) ≡ closed_outcome outcome
  after-closed [] outcome = refl
  after-closed (pass ∷ others) outcome = ap (outcome_after others) (by-closed pass outcome) ∙ after-closed others outcome

  turned-after : (passes : List Pass) → All IsNotNew passes → (outcome : Outcome Value State) → turned_outcome (outcome_after passes outcome) ≡ turned_outcome outcome
  turned-after [] no_new outcome = refl
  turned-after (pass ∷ others) no_new outcome =
      turned-after others (All-tail IsNotNew pass others no_new) (outcome_by pass outcome) ∙ turned-by pass (All-head IsNotNew pass others no_new) outcome

  after-turned : (passes : List Pass) → All IsNotNew passes → (outcome : Outcome Value State) → outcome_after passes (turned_outcome outcome) ≡ turned_outcome outcome
  after-turned [] no_new outcome = refl
  after-turned (pass ∷ others) no_new outcome =
      ap (outcome_after others) (by-turned pass (All-head IsNotNew pass others no_new) outcome) ∙ after-turned others (All-tail IsNotNew pass others no_new) outcome

  pub outcome_after-none : (passes : List Pass) → All InsertsNothing passes → (outcome : Outcome Value State) → outcome_after passes outcome ≡ outcome
  outcome_after-none [] insert outcome = refl
  outcome_after-none (pass ∷ others) insert outcome =
      ap (outcome_after others) (by-nothing pass (All-head InsertsNothing pass others insert) outcome)
      ∙ outcome_after-none others (All-tail InsertsNothing pass others insert) outcome

  pub outcome_after-new : (before after : List Pass) (outcome : Outcome Value State) → outcome_after (before ++ Close New ∷ after) outcome ≡ closed_outcome outcome
  outcome_after-new before after outcome =
      outcome_after-append before (Close New ∷ after) outcome
      ∙ (after-closed after (outcome_after before outcome) ∙ closed-after before outcome)

  pub outcome_after-old : (before after : List Pass) → All IsNotNew before → All IsNotNew after → (outcome : Outcome Value State) →
      outcome_after (before ++ Close Old ∷ after) outcome ≡ turned_outcome outcome
  outcome_after-old before after no_new_before no_new_after outcome =
      outcome_after-append before (Close Old ∷ after) outcome
      ∙ (after-turned after no_new_after (outcome_after before outcome) ∙ turned-after before no_new_before outcome)
