-- The cases from a position on, as a slice.
use Rattle.std.proofs.Common.{◌≡◌, ℕ, zero, suc, ◌-◌, List, [], ◌∷◌, length, take, drop, refl, ◌∙◌, ap}
use Rattle.std.proofs.lemmas.List.{take_rest, drop_min}
use Rattle.std.specs.Prelude.{min}
use Rattle.naga_ir.specs.View.{cases_of}
use Rattle.naga_ir.specs.declared.statement.SwitchCase.{SwitchCase}
use Rattle.naga_runs.specs.Runs.{from}

cases_of-drop : (cases : List SwitchCase) (position : ℕ) → cases_of (drop position cases) ≡ from position (cases_of cases)
cases_of-drop cases zero = refl
cases_of-drop [] (suc position) = refl
cases_of-drop (first ∷ cases) (suc position) = cases_of-drop cases position

-- a slice from the minimum of a position and the length on
pub cases_of-slice : (cases : List SwitchCase) (position first : ℕ) → first ≡ min position (length cases) →
    cases_of (take (length cases - first) (drop first cases)) ≡ from position (cases_of cases)
cases_of-slice cases position first least =
    ap cases_of (take_rest cases first ∙ ap (λ k. drop k cases) least ∙ drop_min position cases) ∙ cases_of-drop cases position
