-- What a visitor does with references, one after another, until it stops.
use Rattle.std.specs.Prelude.{◌≡◌, ◌⊎◌, ◌<◌, ◌+◌, ◌^◌, List, [], ◌∷◌, length}
use Rattle.std.specs.declared.ops.ControlFlow.{ControlFlow}
use Rattle.std.specs.declared.ops.ControlFlow.TheVariants.{Break, Continue}
use Rattle.std.specs.ControlFlow.{MatchControlFlow}
use Rattle.naga_valid.specs.Limits.{IsWithin}
use Rattle.naga_valid.specs.declared.limits.Limits.{Limits}
use Rattle.naga_valid.specs.declared.limits.Outside.{Outside}
use Rattle.naga_valid.specs.declared.reference.Reference.{Reference}
use Rattle.naga_valid.specs.declared.references.nth.Nth.{Nth}

-- a visitor in its first state may return the answer for the reference, and then be in the other state
abbrev pub Step : (Stop State : Type 0) → Type 1
Step Stop State = State → Reference → ControlFlow Stop (Unit {0}) → State → Type 0

-- the visitor went through the list, and the answer is that of the first reference at which it stopped
abbrev pub AreVisited : {Stop State : Type 0} → Step Stop State → State → List Reference → ControlFlow Stop (Unit {0}) → State → Type 0
AreVisited step old [] answer new = (answer ≡ Continue tt) × (new ≡ old)
AreVisited {Stop} {State} step old (to ∷ others) answer new =
    ((stop : Stop) × (answer ≡ Break stop) × step old to (Break stop) new)
    ⊎ ((next : State) × step old to (Continue tt) next × AreVisited step next others answer new)

-- the visitor went through the list, whose length fits into 64 bits
pub record IsWalk {Stop State : Type 0} (step : Step Stop State) (old : State) (list : List Reference) (answer : ControlFlow Stop (Unit {0})) (new : State) : Type 0 where
  pub visited : AreVisited step old list answer new
  pub fits : length list < 2 ^ 64

-- ---- visitors

-- it stops at the reference that has `left` references before it
abbrev pub counts_down : Step Reference Nth
counts_down old to answer new =
    MatchControlFlow answer (λ _. old.left ≡ new.left + 1) (λ stop. (stop ≡ to) × (old.left ≡ 0) × (new ≡ old))

-- the limits of a visitor that tests references
abbrev pub limits_of : Outside → Limits
limits_of outside = record outside.limits.now { expressions = outside.expressions }

-- it stops at a reference that is not within its limits
abbrev pub tests : Step Reference Outside
tests old to answer new =
    (new ≡ old) × MatchControlFlow answer (λ _. IsWithin (limits_of old) to) (λ stop. (stop ≡ to) × ¬ IsWithin (limits_of old) to)
