-- Interpretations by which a switch enters the case that has the number of its selector.
use Rattle.std.specs.Prelude.{◌≡◌, ℕ, suc, Bool, false, List, [], ◌∷◌, if◌then◌else◌, nat_eq}
use Rattle.std.specs.Ordering.{int_eq}
use Rattle.naga_kinds.specs.declared.switch.SwitchValue.{SwitchValue}
use Rattle.naga_kinds.specs.declared.switch.SwitchValue.TheVariants.{I32, U32}
use Rattle.naga_runs.specs.Runs.{entered}
use Rattle.naga_meaning.specs.Values.{Interpretation}

-- the case with this value is the one of this number; a default is the case of no number
abbrev pub is_case_of : (number value : SwitchValue) → Bool
is_case_of (I32 m) (I32 n) = int_eq m n
is_case_of (U32 m) (U32 n) = nat_eq m n
is_case_of number value = false

-- the position of the first case of this number, or the number of cases if there is none
abbrev pub case_of : (number : SwitchValue) → List SwitchValue → ℕ
case_of number [] = 0
case_of number (value ∷ rest) = if is_case_of number value then 0 else suc (case_of number rest)

-- a switch enters the first case that has the number of its selector, else the first default, and else no case
abbrev pub EntersByNumber : {Shape Action Value State : Type 0} → (number_of : Value → SwitchValue) →
    Interpretation Shape Action Value State → Type 0
EntersByNumber {Value = Value} number_of by =
    (selector : Value) (values : List SwitchValue) →
    entered values (by.choose selector values) ≡ entered values (case_of (number_of selector) values)
