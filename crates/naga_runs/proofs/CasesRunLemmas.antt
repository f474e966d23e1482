-- Walks by the cases of a switch, one after another.
use Rattle.std.proofs.Common.{◌≡◌, ◌≢◌, ℕ, ◌+◌, ◌<◌, Bool, true, false, List, ◌∷◌, length, get_or, drop, refl, sym, ◌∙◌, ap, subst}
use Rattle.std.proofs.lemmas.List.{drop_more}
use Rattle.naga_kinds.specs.declared.switch.SwitchValue.{SwitchValue}
use Rattle.naga_ir.specs.Tree.{Tree, Cases, no_cases, case}
use Rattle.naga_ir.specs.View.{tree_of, cases_of}
use Rattle.naga_ir.specs.declared.statement.SwitchCase.{SwitchCase}
use Rattle.naga_runs.specs.Replay.Walking.{Walked, MeetsPlain}
use Rattle.naga_runs.specs.Runs.{Run, quiet, slipping, BlockRuns, CasesRun, past, falls, broken, ends, passed_on}
use Rattle.naga_runs.specs.declared.run.Ending.TheVariants.{Normal, Break}
use Rattle.naga_runs.specs.declared.walk.Stop.{Stop}
use Rattle.naga_runs.specs.declared.walk.Walk.{Walk}
use Rattle.naga_runs.proofs.CompletesLemmas.{Completes}
use Rattle.naga_runs.proofs.MeetsPlainLemmas.{MeetsPlain-joined, MeetsPlain-case}
use Rattle.naga_runs.proofs.WalkedLemmas.{Walked-joined, Walked-slipping, Walked-by_part, Walked-quiet}

-- the next case, if the walk has come to position `i`
pub CasesRun-next : (turns : ℕ) (cases : List SwitchCase) (i : ℕ) (next : SwitchCase) (Whole : List ℕ → Run → Type 0) (old mid : Walk) →
    i < length cases → next ≡ get_or cases i next → Completes (CasesRun turns (cases_of (drop i cases))) Whole old mid →
    Completes (CasesRun turns (cases_of (next ∷ drop (i + 1) cases))) Whole old mid
CasesRun-next turns cases i next Whole old mid within is c =
    subst (λ l. Completes (CasesRun turns (cases_of l)) Whole old mid) (drop_more cases i next within ∙ ap (λ first. first ∷ drop (i + 1) cases) (sym is)) c

-- the body of the next case ended normally and falls through
pub CasesRun-falls : (turns : ℕ) (first : SwitchCase) (rest : List SwitchCase) (Whole : List ℕ → Run → Type 0) (old mid new : Walk) (stop : Stop) →
    Completes (CasesRun turns (cases_of (first ∷ rest))) Whole old mid → Walked (BlockRuns turns (tree_of first.body)) mid new stop →
    stop.ending ≡ Normal → first.fall_through ≡ true → Completes (CasesRun turns (cases_of rest)) Whole old new
CasesRun-falls turns first rest Whole old mid new stop c d e t = record {
  walked = λ end last k. c.walked end last
      (subst (λ through. Walked (CasesRun turns (case first.value (tree_of first.body) through (cases_of rest))) mid end last) (sym t)
      (Walked-joined (BlockRuns turns (tree_of first.body)) (CasesRun turns (cases_of rest)) (CasesRun turns (case first.value (tree_of first.body) true (cases_of rest))) d k
      (λ a f s p q x y. falls x (sym p ∙ e) y)));
  meets = λ m. c.meets
      (subst (λ through. MeetsPlain (CasesRun turns (case first.value (tree_of first.body) through (cases_of rest))) mid.answers.now) (sym t)
      (MeetsPlain-joined (BlockRuns turns (tree_of first.body)) (CasesRun turns (cases_of rest)) (CasesRun turns (case first.value (tree_of first.body) true (cases_of rest))) d m
      (λ a f s p x y. falls x (sym p ∙ e) y)));
}

-- out of memory in the body of the next case
pub CasesRun-body_meets : (turns : ℕ) (first : SwitchCase) (rest : List SwitchCase) (Whole : List ℕ → Run → Type 0) (old mid : Walk) →
    Completes (CasesRun turns (cases_of (first ∷ rest))) Whole old mid → MeetsPlain (BlockRuns turns (tree_of first.body)) mid.answers.now →
    MeetsPlain Whole old.answers.now
CasesRun-body_meets turns first rest Whole old mid c m =
    c.meets (MeetsPlain-case turns first.value (tree_of first.body) first.fall_through (cases_of rest) mid.answers.now m)

-- the body of the next case ended with a break
pub CasesRun-broken : (turns : ℕ) (first : SwitchCase) (rest : List SwitchCase) (Whole : List ℕ → Run → Type 0) (old mid new : Walk) (stop : Stop) →
    Completes (CasesRun turns (cases_of (first ∷ rest))) Whole old mid → Walked (BlockRuns turns (tree_of first.body)) mid new stop →
    stop.ending ≡ Break → Walked Whole old new (record { ending = Normal; slipped = true })
CasesRun-broken turns first rest Whole old mid new stop c d e =
    c.walked new (record { ending = Normal; slipped = true })
    (Walked-slipping (BlockRuns turns (tree_of first.body)) (CasesRun turns (cases_of (first ∷ rest))) d (λ a r p x. broken x (sym p ∙ e)))

-- the switch ends with the body of the next case
CasesRun-ends_by : (turns : ℕ) (value : SwitchValue) (body : Tree) (through : Bool) (others : Cases) (old new : Walk) (stop : Stop) →
    Walked (BlockRuns turns body) old new stop → stop.ending ≢ Break → (stop.ending ≡ Normal → through ≡ true → ⊥) →
    Walked (CasesRun turns (case value body through others)) old new stop
CasesRun-ends_by turns value body true others old new stop d h k =
    Walked-by_part (BlockRuns turns body) (CasesRun turns (case value body true others)) d
    (λ a r p x. passed_on x (λ q. h (p ∙ q)) (λ q. k (p ∙ q) refl))
CasesRun-ends_by turns value body false others old new stop d h k =
    Walked-by_part (BlockRuns turns body) (CasesRun turns (case value body false others)) d (λ a r p x. ends x (λ q. h (p ∙ q)))

pub CasesRun-ends : (turns : ℕ) (first : SwitchCase) (rest : List SwitchCase) (Whole : List ℕ → Run → Type 0) (old mid new : Walk) (stop : Stop) →
    Completes (CasesRun turns (cases_of (first ∷ rest))) Whole old mid → Walked (BlockRuns turns (tree_of first.body)) mid new stop →
    stop.ending ≢ Break → (stop.ending ≡ Normal → first.fall_through ≡ true → ⊥) → Walked Whole old new stop
CasesRun-ends turns first rest Whole old mid new stop c d h k =
    c.walked new stop (CasesRun-ends_by turns first.value (tree_of first.body) first.fall_through (cases_of rest) mid new stop d h k)

-- after the last case
pub CasesRun-past : (turns : ℕ) (Whole : List ℕ → Run → Type 0) (old new : Walk) →
    Completes (CasesRun turns no_cases) Whole old new → Walked Whole old new (record { ending = Normal; slipped = true })
CasesRun-past turns Whole old new c =
    c.walked new (record { ending = Normal; slipped = true })
    (Walked-quiet (CasesRun turns no_cases) new new (slipping (quiet Normal)) refl refl refl refl past)
