-- Walks by the turns of a loop, one after another.
use Rattle.std.proofs.Common.{◌≡◌, ◌≢◌, ℕ, suc, ◌+◌, ◌-◌, ◌<◌, false, List, Option, refl, sym, ◌∙◌, subst, arith}
use Rattle.naga_ir.specs.Tree.{Tree}
use Rattle.naga_runs.specs.Replay.Walking.{Walked, MeetsPlain}
use Rattle.naga_runs.specs.Runs.{Run, quiet, LoopRuns, no_turn, again, left, over, TurnRuns}
use Rattle.naga_runs.specs.declared.run.Ending.TheVariants.{Normal, Break, Cut}
use Rattle.naga_runs.specs.declared.walk.Stop.{Stop}
use Rattle.naga_runs.specs.declared.walk.Walk.{Walk}
use Rattle.naga_runs.proofs.CompletesLemmas.{Completes}
use Rattle.naga_runs.proofs.MeetsPlainLemmas.{MeetsPlain-joined, MeetsPlain-loop}
use Rattle.naga_runs.proofs.WalkedLemmas.{normally, Walked-joined, Walked-leaving, Walked-by_part, Walked-quiet}

-- the next turn, if the walk has made `turn` turns
pub LoopRuns-next : (turns turn : ℕ) (b c : Tree) (break_if : Option ℕ) (Whole : List ℕ → Run → Type 0) (old mid : Walk) →
    turn < turns → Completes (LoopRuns turns (turns - turn) b c break_if) Whole old mid →
    Completes (LoopRuns turns (suc (turns - (turn + 1))) b c break_if) Whole old mid
LoopRuns-next turns turn b c break_if Whole old mid within h =
    let ahead : turns - turn ≡ suc (turns - (turn + 1)) = omega arith in
    subst (λ k. Completes (LoopRuns turns k b c break_if) Whole old mid) ahead h

-- the next turn ended normally
pub LoopRuns-again : (turns k : ℕ) (b c : Tree) (break_if : Option ℕ) (Whole : List ℕ → Run → Type 0) (old mid new : Walk) (stop : Stop) →
    Completes (LoopRuns turns (suc k) b c break_if) Whole old mid → Walked (TurnRuns turns b c break_if) mid new stop →
    stop.ending ≡ Normal → Completes (LoopRuns turns k b c break_if) Whole old new
LoopRuns-again turns k b c break_if Whole old mid new stop h d e = record {
  walked = λ end last rest. h.walked end last
      (Walked-joined (TurnRuns turns b c break_if) (LoopRuns turns k b c break_if) (LoopRuns turns (suc k) b c break_if) d rest
      (λ a f s p q x y. again x (sym p ∙ e) y));
  meets = λ m. h.meets
      (MeetsPlain-joined (TurnRuns turns b c break_if) (LoopRuns turns k b c break_if) (LoopRuns turns (suc k) b c break_if) d m
      (λ a f s p x y. again x (sym p ∙ e) y));
}

-- out of memory in the next turn
pub LoopRuns-turn_meets : (turns k : ℕ) (b c : Tree) (break_if : Option ℕ) (Whole : List ℕ → Run → Type 0) (old mid : Walk) →
    Completes (LoopRuns turns (suc k) b c break_if) Whole old mid → MeetsPlain (TurnRuns turns b c break_if) mid.answers.now →
    MeetsPlain Whole old.answers.now
LoopRuns-turn_meets turns k b c break_if Whole old mid h m =
    h.meets (MeetsPlain-loop turns k b c break_if mid.answers.now m)

-- the next turn left the loop
pub LoopRuns-left : (turns k : ℕ) (b c : Tree) (break_if : Option ℕ) (Whole : List ℕ → Run → Type 0) (old mid new : Walk) (stop : Stop) →
    Completes (LoopRuns turns (suc k) b c break_if) Whole old mid → Walked (TurnRuns turns b c break_if) mid new stop →
    stop.ending ≡ Break → Walked Whole old new normally
LoopRuns-left turns k b c break_if Whole old mid new stop h d e =
    h.walked new normally
    (Walked-leaving (TurnRuns turns b c break_if) (LoopRuns turns (suc k) b c break_if) d (λ a r p x. left x (sym p ∙ e)))

-- the loop ends with the next turn
pub LoopRuns-over : (turns k : ℕ) (b c : Tree) (break_if : Option ℕ) (Whole : List ℕ → Run → Type 0) (old mid new : Walk) (stop : Stop) →
    Completes (LoopRuns turns (suc k) b c break_if) Whole old mid → Walked (TurnRuns turns b c break_if) mid new stop →
    stop.ending ≢ Normal → stop.ending ≢ Break → Walked Whole old new stop
LoopRuns-over turns k b c break_if Whole old mid new stop h d n m =
    h.walked new stop
    (Walked-by_part (TurnRuns turns b c break_if) (LoopRuns turns (suc k) b c break_if) d (λ a r p x. over x (λ q. m (p ∙ q)) (λ q. n (p ∙ q))))

-- no turn is left
pub LoopRuns-no_turn : (turns : ℕ) (b c : Tree) (break_if : Option ℕ) (Whole : List ℕ → Run → Type 0) (old new : Walk) →
    Completes (LoopRuns turns 0 b c break_if) Whole old new → Walked Whole old new (record { ending = Cut; slipped = false })
LoopRuns-no_turn turns b c break_if Whole old new h =
    h.walked new (record { ending = Cut; slipped = false })
    (Walked-quiet (LoopRuns turns 0 b c break_if) new new (quiet Cut) refl refl refl refl no_turn)
