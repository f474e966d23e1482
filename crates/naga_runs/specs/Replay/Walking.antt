-- The progress of a part of a replay, and the condition under which it may fail. No public clause cites this module.
use Rattle.std.specs.Prelude.{◌≡◌, ◌≢◌, ℕ, ◌+◌, List, [], ◌++◌, Result, MatchResult, length, drop}
use Rattle.std.specs.declared.alloc.AllocError.{AllocError}
use Rattle.naga_runs.specs.Replay.{met}
use Rattle.naga_runs.specs.Runs.{Run}
use Rattle.naga_runs.specs.declared.walk.Stop.{Stop}
use Rattle.naga_runs.specs.declared.walk.Walk.{Walk}

-- by this run, a walk went on from `old` to `new`, and stopped with `stop`
pub record WentBy (old new : Walk) (stop : Stop) (run : Run) : Type 0 where
  pub trace : met new.trace.items ≡ met old.trace.items ++ run.trace
  pub answers : new.answers.now ≡ drop run.used old.answers.now
  pub used : run.used + length new.answers.now ≡ length old.answers.now
  pub ending : stop.ending ≡ run.ending
  pub slipped : stop.slipped ≡ run.slipped

-- there is a run among `Runs` by which the walk went on
pub record Walked (Runs : List ℕ → Run → Type 0) (old new : Walk) (stop : Stop) : Type 0 where
  pub run : Run
  pub fits : Runs old.answers.now run
  pub went : WentBy old new stop run

-- there is a run among `Runs` that meets a plain statement
abbrev pub MeetsPlain : (Runs : List ℕ → Run → Type 0) → List ℕ → Type 0
MeetsPlain Runs answers = (run : Run) × Runs answers run × (run.trace ≢ [])

-- there is a run among `Runs` by which the walk went on or, if out of memory, there is one that meets a plain statement
abbrev pub WalksBy : (Runs : List ℕ → Run → Type 0) (old new : Walk) → Result Stop AllocError → Type 0
WalksBy Runs old new result =
    MatchResult result (λ stop. Walked Runs old new stop) (λ error. MeetsPlain Runs old.answers.now)
