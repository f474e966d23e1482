-- Closing and culling the body of a function keep its meaning.
use Rattle.std.proofs.Common.{◌≡◌, ◌∙◌, ap, refl, ℕ, Bool, true, false}
use Rattle.std.specs.Prelude.{Some}
use Rattle.naga_ir.specs.Tree.{Tree}
use Rattle.naga_ir.specs.View.{tree_of}
use Rattle.naga_ir.specs.declared.module.Function.{Function}
use Rattle.naga_runs.specs.declared.run.Ending.{Ending}
use Rattle.naga_runs.specs.declared.run.Ending.TheVariants.{Normal, Break, Continue, Return, Kill, Cut}
use Rattle.naga_valid.specs.declared.reference.Reference.{Reference}
use Rattle.naga_compact.specs.Culling.{culled}
use Rattle.naga_proc.specs.Closing.{Closed, FullyClosed}
use Rattle.naga_proc.specs.Closing.KeptRuns.{turned_ending}
use Rattle.naga_meaning.specs.Calls.{MeanTheSameToCallers, blank}
use Rattle.naga_meaning.specs.Closing.{closed_by, closed_outcome, fallen, turned, turned_outcome}
use Rattle.naga_meaning.specs.Functions.{Meanings, code_of, initials, meaning, parts}
use Rattle.naga_meaning.specs.Machine.{Done, does}
use Rattle.naga_meaning.specs.Readings.{read_by}
use Rattle.naga_meaning.specs.Values.{Code, Interpretation, Outcome, Parts, World, entered, machine, outcome, outcome_of}
use Rattle.naga_meaning.proofs.FallenLemmas.{does-culled, does-fallen}
use Rattle.naga_meaning.proofs.TurnedLemmas.{does-turned}

module _ {Value State : Type 0} where
  pub closed-again : (outcome : Outcome Value State) → closed_outcome (closed_outcome outcome) ≡ closed_outcome outcome
  closed-again outcome = go outcome.ending
    where
      go : (e : Ending) → closed_outcome (closed_by e (record outcome { ending = e })) ≡ closed_by e (record outcome { ending = e })
      go Normal = refl
      go _ = refl

  pub closed-turned : (outcome : Outcome Value State) → closed_outcome (turned_outcome outcome) ≡ closed_outcome outcome
  closed-turned outcome = go outcome.ending outcome.slipped
    where
      go : (e : Ending) (slipped : Bool) → closed_outcome (record outcome { ending = turned_ending e slipped; slipped = slipped }) ≡ closed_by e (record outcome { ending = e; slipped = slipped })
      go Normal true = refl
      go Normal false = refl
      go _ slipped = refl

module _ {Shape Action Value State : Type 0} (parts_of : Parts Action) (by : Interpretation Shape Action Value State) (code : Code Shape) where
  outcome-fallen : (state : World Value State) (ending : Ending) (slipped : Bool) →
      let left : Done (World Value State) = record { state = state; ending = ending; slipped = slipped } in
      outcome_of by code (fallen left) ≡ closed_outcome (outcome_of by code left)
  outcome-fallen state Normal slipped = refl
  outcome-fallen state Break slipped = refl
  outcome-fallen state Continue slipped = refl
  outcome-fallen state (Return value) slipped = refl
  outcome-fallen state Kill slipped = refl
  outcome-fallen state Cut slipped = refl

  outcome-turned : (state : World Value State) (ending : Ending) (slipped : Bool) →
      let left : Done (World Value State) = record { state = state; ending = ending; slipped = slipped } in
      outcome_of by code (turned left) ≡ turned_outcome (outcome_of by code left)
  outcome-turned state Normal true = refl
  outcome-turned state Normal false = refl
  outcome-turned state Break slipped = refl
  outcome-turned state Continue slipped = refl
  outcome-turned state (Return value) slipped = refl
  outcome-turned state Kill slipped = refl
  outcome-turned state Cut slipped = refl

  pub outcome-closed : (old new : Tree) → FullyClosed old new → (turns : ℕ) (start : World Value State) →
      outcome parts_of by code turns new start ≡ closed_outcome (outcome parts_of by code turns old start)
  outcome-closed old new closes turns start =
      let left : Done (World Value State) = does (machine parts_of by code) turns old start in
      ap (outcome_of by code) (does-fallen (machine parts_of by code) closes turns start) ∙ outcome-fallen left.state left.ending left.slipped

  pub outcome-closed_old : (old new : Tree) → Closed old new → (turns : ℕ) (start : World Value State) →
      outcome parts_of by code turns new start ≡ turned_outcome (outcome parts_of by code turns old start)
  outcome-closed_old old new closes turns start =
      let left : Done (World Value State) = does (machine parts_of by code) turns old start in
      ap (outcome_of by code) (does-turned (machine parts_of by code) closes turns start) ∙ outcome-turned left.state left.ending left.slipped

  pub outcome-culled : (block : Tree) (turns : ℕ) (start : World Value State) → outcome parts_of by code turns (culled block) start ≡ outcome parts_of by code turns block start
  outcome-culled block turns start = ap (outcome_of by code) (does-culled (machine parts_of by code) turns block start)

module _ {Thing Value State : Type 0} (old new : Function) (expressions : new.expressions ≡ old.expressions) (variables : new.local_variables ≡ old.local_variables)
    (look : Reference → Thing) (by : Meanings Thing Value State) (at_use : ℕ → Bool) (turns : ℕ) (start : World Value State) where
  -- the meaning is the outcome of the new body with the old expressions and variables
  same_outside : meaning look by turns (read_by at_use new) start
      ≡ outcome (parts look) by (code_of look at_use old.expressions) turns (tree_of new.body) (entered by (code_of look at_use old.expressions) (initials old.local_variables) start)
  same_outside = λ i.
      outcome (parts look) by (code_of look at_use (expressions i)) turns (tree_of new.body) (entered by (code_of look at_use (expressions i)) (initials (variables i)) start)

  pub meaning-closed : FullyClosed (tree_of old.body) (tree_of new.body) →
      meaning look by turns (read_by at_use new) start ≡ closed_outcome (meaning look by turns (read_by at_use old) start)
  meaning-closed closes =
      let code = code_of look at_use old.expressions in
      same_outside ∙ outcome-closed (parts look) by code (tree_of old.body) (tree_of new.body) closes turns (entered by code (initials old.local_variables) start)

  pub meaning-closed_old : Closed (tree_of old.body) (tree_of new.body) →
      meaning look by turns (read_by at_use new) start ≡ turned_outcome (meaning look by turns (read_by at_use old) start)
  meaning-closed_old closes =
      let code = code_of look at_use old.expressions in
      same_outside ∙ outcome-closed_old (parts look) by code (tree_of old.body) (tree_of new.body) closes turns (entered by code (initials old.local_variables) start)

  pub meaning-culled : tree_of new.body ≡ culled (tree_of old.body) → meaning look by turns (read_by at_use new) start ≡ meaning look by turns (read_by at_use old) start
  meaning-culled is =
      let code = code_of look at_use old.expressions in
      let begin : World Value State = entered by code (initials old.local_variables) start in
      same_outside ∙ ap (λ body. outcome (parts look) by code turns body begin) is ∙ outcome-culled (parts look) by code (tree_of old.body) turns begin

module _ {Thing Value State : Type 0} (old new : Function) (expressions : new.expressions ≡ old.expressions) (variables : new.local_variables ≡ old.local_variables)
    (look : Reference → Thing) (at_use : ℕ → Bool) where
  -- callers see the same of a function that is closed
  pub callers-closed : FullyClosed (tree_of old.body) (tree_of new.body) → MeanTheSameToCallers Value State look look (Some (read_by at_use old)) (Some (read_by at_use new))
  callers-closed closes by turns start =
      ap closed_outcome (meaning-closed old new expressions variables look by at_use turns (blank start) closes) ∙ closed-again (meaning look by turns (read_by at_use old) (blank start))

  pub callers-closed_old : Closed (tree_of old.body) (tree_of new.body) → MeanTheSameToCallers Value State look look (Some (read_by at_use old)) (Some (read_by at_use new))
  callers-closed_old closes by turns start =
      ap closed_outcome (meaning-closed_old old new expressions variables look by at_use turns (blank start) closes) ∙ closed-turned (meaning look by turns (read_by at_use old) (blank start))
