-- What is left of a whole, after some of its parts.
use Rattle.std.proofs.Common.{ℕ, List}
use Rattle.naga_runs.specs.Replay.Walking.{Walked, MeetsPlain}
use Rattle.naga_runs.specs.Runs.{Run}
use Rattle.naga_runs.specs.declared.walk.Stop.{Stop}
use Rattle.naga_runs.specs.declared.walk.Walk.{Walk}

-- whatever the rest does from `mid` on, the whole does from `old` on
pub record Completes (Rest Whole : List ℕ → Run → Type 0) (old mid : Walk) : Type 0 where
  pub walked : (new : Walk) (stop : Stop) → Walked Rest mid new stop → Walked Whole old new stop
  pub meets : MeetsPlain Rest mid.answers.now → MeetsPlain Whole old.answers.now

-- before the first part
pub Completes-itself : (Whole : List ℕ → Run → Type 0) (walk : Walk) → Completes Whole Whole walk walk
Completes-itself Whole walk = record { walked = λ new stop d. d; meets = λ m. m }
