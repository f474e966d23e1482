-- Walks by the break condition of a loop.
use Rattle.std.proofs.Common.{◌≡◌, ◌≢◌, ℕ, zero, suc, false, List, [], ◌∷◌, Option, Some, None, refl, sym, ◌∙◌, ap, subst}
use Rattle.naga_runs.specs.Replay.Walking.{Walked}
use Rattle.naga_runs.specs.Runs.{quiet, answered, Asks, not_asked, unanswered, says_no, says_yes}
use Rattle.naga_runs.specs.declared.run.Ending.{Ending}
use Rattle.naga_runs.specs.declared.run.Ending.TheVariants.{Normal, Break, Cut}
use Rattle.naga_runs.specs.declared.walk.Walk.{Walk}
use Rattle.naga_runs.proofs.WalkedLemmas.{normally, Walked-quiet, Walked-cut, Walked-answered}

-- there is no break condition
pub Asks-not_asked : (break_if : Option ℕ) (walk : Walk) → break_if ≡ None → Walked (Asks break_if) walk walk normally
Asks-not_asked None walk p =
    Walked-quiet (Asks None) walk walk (quiet Normal) refl refl refl refl not_asked
Asks-not_asked (Some condition) walk p = absurd (cc)

-- there is a break condition, and no answer for it
pub Asks-unanswered : (break_if : Option ℕ) (old new : Walk) → break_if ≢ None → new.trace ≡ old.trace → old.answers.now ≡ [] → new.answers.now ≡ [] →
    Walked (Asks break_if) old new (record { ending = Cut; slipped = false })
Asks-unanswered None old new h e p q = absurd (h refl)
Asks-unanswered (Some condition) old new h e p q = Walked-cut (Asks (Some condition)) old new e p q unanswered

-- an answer was read that decides the condition
Asks-answered : (condition answer : ℕ) (ending : Ending) (old new : Walk) → new.trace ≡ old.trace → old.answers.now ≡ answer ∷ new.answers.now →
    ((answers : List ℕ) → Asks (Some condition) (answer ∷ answers) (answered (quiet ending))) →
    Walked (Asks (Some condition)) old new (record { ending = ending; slipped = false })
Asks-answered condition answer ending old new e p rule =
    Walked-answered (λ answers run. run ≡ quiet ending) (Asks (Some condition)) e p
    (Walked-quiet (λ answers run. run ≡ quiet ending) new new (quiet ending) refl refl refl refl refl)
    (λ answers run q. subst (λ r. Asks (Some condition) (answer ∷ answers) (answered r)) (sym q) (rule answers))

pub Asks-says_no : (break_if : Option ℕ) (old new : Walk) (answer : ℕ) → break_if ≢ None → new.trace ≡ old.trace → old.answers.now ≡ answer ∷ new.answers.now → answer ≡ 0 →
    Walked (Asks break_if) old new normally
Asks-says_no None old new answer h e p z = absurd (h refl)
Asks-says_no (Some condition) old new answer h e p z =
    Asks-answered condition 0 Normal old new e (p ∙ ap (λ x. x ∷ new.answers.now) z) (λ answers. says_no)

pub Asks-says_yes : (break_if : Option ℕ) (old new : Walk) (answer : ℕ) → break_if ≢ None → new.trace ≡ old.trace → old.answers.now ≡ answer ∷ new.answers.now → answer ≢ 0 →
    Walked (Asks break_if) old new (record { ending = Break; slipped = false })
Asks-says_yes None old new answer h e p z = absurd (h refl)
Asks-says_yes (Some condition) old new zero h e p z = absurd (z refl)
Asks-says_yes (Some condition) old new (suc answer) h e p z =
    Asks-answered condition (suc answer) Break old new e p (λ answers. says_yes)
