-- Walks by one turn of a loop.
use Rattle.std.proofs.Common.{◌≡◌, ℕ, Bool, true, false, List, drop, Option, refl, sym, subst}
use Rattle.std.specs.Prelude.{◌↔◌, IsTrue}
use Rattle.naga_ir.specs.Tree.{Tree}
use Rattle.naga_runs.specs.Replay.Walking.{Walked}
use Rattle.naga_runs.specs.Runs.{Run, joined, GoesOn, Asks, BlockRuns, TurnRuns, in_body, in_continuing, whole}
use Rattle.naga_runs.specs.declared.run.Ending.{Ending}
use Rattle.naga_runs.specs.declared.walk.Stop.{Stop}
use Rattle.naga_runs.specs.declared.walk.Walk.{Walk}
use Rattle.naga_runs.proofs.WalkedLemmas.{Walked-by_part, Walked-joined}

-- if the test returns `false`, the turn does not go on
pub GoesOn-test_false : (answer : Bool) (ending : Ending) → (IsTrue answer ↔ GoesOn ending) → answer ≡ false → GoesOn ending → ⊥
GoesOn-test_false answer ending h p g = let yes : answer ≡ true = h.1 g in cc

-- an ending that is equal to one after which the turn does not go on
GoesOn-not : (e e' : Ending) → e ≡ e' → (GoesOn e → ⊥) → GoesOn e' → ⊥
GoesOn-not e e' p h g = h (subst GoesOn (sym p) g)

-- the turn ends in the body
pub TurnRuns-in_body : (turns : ℕ) (b c : Tree) (break_if : Option ℕ) (old new : Walk) (stop : Stop) → Walked (BlockRuns turns b) old new stop →
    (GoesOn stop.ending → ⊥) → Walked (TurnRuns turns b c break_if) old new stop
TurnRuns-in_body turns b c break_if old new stop d h =
    Walked-by_part (BlockRuns turns b) (TurnRuns turns b c break_if) d (λ a r p x. in_body x (GoesOn-not stop.ending r.ending p h))

-- the turn ends in the continuing block
pub TurnRuns-in_continuing : (turns : ℕ) (b c : Tree) (break_if : Option ℕ) (old mid new : Walk) (stop stop' : Stop) →
    Walked (BlockRuns turns b) old mid stop → GoesOn stop.ending → Walked (BlockRuns turns c) mid new stop' → (GoesOn stop'.ending → ⊥) →
    Walked (TurnRuns turns b c break_if) old new stop'
TurnRuns-in_continuing turns b c break_if old mid new stop stop' d g k h =
    Walked-joined (BlockRuns turns b) (BlockRuns turns c) (TurnRuns turns b c break_if) d k
    (λ a f s p q x y. in_continuing x (subst GoesOn p g) y (GoesOn-not stop'.ending s.ending q h))

-- the runs of the continuing block, followed by the break condition
abbrev AfterBody : ℕ → Tree → Option ℕ → List ℕ → Run → Type 0
AfterBody turns c break_if answers run =
    (second : Run) × (third : Run) × BlockRuns turns c answers second × GoesOn second.ending × Asks break_if (drop second.used answers) third × (run ≡ joined second third)

-- the turn reaches the break condition
pub TurnRuns-whole : (turns : ℕ) (b c : Tree) (break_if : Option ℕ) (old mid mid' new : Walk) (stop stop' last : Stop) →
    Walked (BlockRuns turns b) old mid stop → GoesOn stop.ending → Walked (BlockRuns turns c) mid mid' stop' → GoesOn stop'.ending →
    Walked (Asks break_if) mid' new last → Walked (TurnRuns turns b c break_if) old new last
TurnRuns-whole turns b c break_if old mid mid' new stop stop' last d g k g' t =
    let rest : Walked (AfterBody turns c break_if) mid new last =
    Walked-joined (BlockRuns turns c) (Asks break_if) (AfterBody turns c break_if) k t
    (λ a f s p q x y. (f, s, x, subst GoesOn p g', y, refl))
    in
    Walked-joined (BlockRuns turns b) (AfterBody turns c break_if) (TurnRuns turns b c break_if) d rest
    (λ a f s p q x y. subst (λ z. TurnRuns turns b c break_if a (joined f z)) (sym y.5) (whole x (subst GoesOn p g) y.2 y.3 y.4))
