-- A call that walked a part of a run, or failed in it, walked the whole run, or failed in it.
use Rattle.std.proofs.Common.{◌≡◌, ℕ, true, false, List, ◌∷◌}
use Rattle.std.specs.Prelude.{Result, Ok, Err, IsErr}
use Rattle.std.specs.declared.alloc.AllocError.{AllocError}
use Rattle.naga_runs.specs.Replay.Walking.{Walked, MeetsPlain, WalksBy}
use Rattle.naga_runs.specs.Runs.{Run, answered}
use Rattle.naga_runs.specs.declared.walk.Stop.{Stop}
use Rattle.naga_runs.specs.declared.walk.Walk.{Walk}
use Rattle.naga_runs.proofs.MeetsPlainLemmas.{MeetsPlain-answered}
use Rattle.naga_runs.proofs.WalkedLemmas.{Walked-answered}

-- a walk by a part is a walk by the whole
pub WalksBy-by_part : (Part Whole : List ℕ → Run → Type 0) (old mid new : Walk) (r : Result Stop AllocError) →
    ((stop : Stop) → Walked Part mid new stop → Walked Whole old new stop) →
    (MeetsPlain Part mid.answers.now → MeetsPlain Whole old.answers.now) → WalksBy Part mid new r → WalksBy Whole old new r
WalksBy-by_part Part Whole old mid new (Ok stop) walked rest d = walked stop d
WalksBy-by_part Part Whole old mid new (Err error) walked rest d = rest d

-- an error was propagated
pub WalksBy-error : (Whole : List ℕ → Run → Type 0) (old new : Walk) (r : Result Stop AllocError) → IsErr r →
    MeetsPlain Whole old.answers.now → WalksBy Whole old new r
WalksBy-error Whole old new (Ok stop) h m = absurd (let no : false ≡ true = h in cc)
WalksBy-error Whole old new (Err error) h m = m

-- a part, after an answer was read
pub WalksBy-answered : (Part Whole : List ℕ → Run → Type 0) (old mid new : Walk) (answer : ℕ) (r : Result Stop AllocError) →
    mid.trace ≡ old.trace → old.answers.now ≡ answer ∷ mid.answers.now → WalksBy Part mid new r →
    ((answers : List ℕ) (run : Run) → Part answers run → Whole (answer ∷ answers) (answered run)) → WalksBy Whole old new r
WalksBy-answered Part Whole old mid new answer r e p d rule =
    WalksBy-by_part Part Whole old mid new r (λ stop w. Walked-answered Part Whole e p w rule)
    (λ m. MeetsPlain-answered Part Whole old.answers.now mid.answers.now answer p m (rule mid.answers.now)) d
