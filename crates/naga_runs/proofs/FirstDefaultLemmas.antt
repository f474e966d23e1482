-- The position of the first default case.
use Rattle.std.proofs.Common.{◌≡◌, ℕ, zero, suc, ◌<◌, ◌≤◌, true, false, List, [], ◌∷◌, length, drop, refl, arith}
use Rattle.std.specs.Prelude.{slice_index_or}
use Rattle.naga_kinds.specs.Switch.{is_default_value}
use Rattle.naga_kinds.specs.declared.switch.SwitchValue.{SwitchValue}
use Rattle.naga_kinds.specs.declared.switch.SwitchValue.TheVariants.{Default}
use Rattle.naga_ir.specs.View.{cases_of}
use Rattle.naga_ir.specs.declared.statement.SwitchCase.{SwitchCase}
use Rattle.naga_runs.specs.Runs.{values, first_default}

-- the position of the first default, counted from a position on
abbrev pub default_from : List SwitchCase → ℕ → ℕ
default_from cases i = first_default (values (cases_of (drop i cases)))

first_default-is : (value : SwitchValue) (others : List SwitchValue) → is_default_value value ≡ true → first_default (value ∷ others) ≡ 0
first_default-is Default others h = refl
first_default-is _ others h = absurd (let e : false ≡ true = h in cc)

first_default-not : (value : SwitchValue) (others : List SwitchValue) → is_default_value value ≡ false → first_default (value ∷ others) ≡ suc (first_default others)
first_default-not Default others h = absurd (let e : true ≡ false = h in cc)
first_default-not _ others h = refl

-- the case at the position is a default, or not, or there is none
pub default_from-here : (cases : List SwitchCase) (i : ℕ) (d : SwitchCase) → i < length cases → is_default_value (slice_index_or cases i d).value ≡ true → default_from cases i ≡ 0
default_from-here [] i d h is = absurd (omega arith)
default_from-here (first ∷ cases) zero d h is = first_default-is first.value (values (cases_of cases)) is
default_from-here (first ∷ cases) (suc i) d h is = default_from-here cases i d (omega arith) is

pub default_from-later : (cases : List SwitchCase) (i : ℕ) (d : SwitchCase) → i < length cases → is_default_value (slice_index_or cases i d).value ≡ false → default_from cases i ≡ suc (default_from cases (suc i))
default_from-later [] i d h is = absurd (omega arith)
default_from-later (first ∷ cases) zero d h is = first_default-not first.value (values (cases_of cases)) is
default_from-later (first ∷ cases) (suc i) d h is = default_from-later cases i d (omega arith) is

pub default_from-past : (cases : List SwitchCase) (i : ℕ) → length cases ≤ i → default_from cases i ≡ 0
default_from-past [] zero h = refl
default_from-past [] (suc i) h = refl
default_from-past (first ∷ cases) zero h = absurd (omega arith)
default_from-past (first ∷ cases) (suc i) h = default_from-past cases i (omega arith)
