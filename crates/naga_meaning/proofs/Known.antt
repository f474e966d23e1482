-- Worlds that agree on what has been evaluated.
use Rattle.std.specs.Prelude.{◌≡◌, ℕ, List}
use Rattle.std.specs.List.{Contains}
use Rattle.naga_flow.specs.Uses.{Expressions, MayUse}
use Rattle.naga_meaning.specs.Values.{Code, Interpretation, World, value}

-- the same state, and the same values of these expressions
pub record AgreeOn {Value State : Type 0} (known : List ℕ) (a b : World Value State) : Type 0 where
  pub state : b.state ≡ a.state
  pub values : (x : ℕ) → Contains known x → b.values x ≡ a.values x

-- the value of an expression where it is used depends only on the state and on what such a use reads
abbrev pub ReadsDecide : {Shape Action Value State : Type 0} → Interpretation Shape Action Value State → Code Shape → Expressions → Type 0
ReadsDecide {Value = Value} {State = State} by code expressions =
    (known : List ℕ) (x : ℕ) (a b : World Value State) → AgreeOn known a b → MayUse expressions known x → value by code b x ≡ value by code a x
