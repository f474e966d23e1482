use Rattle.std.proofs.Common.{◌≡◌, refl, sym, arith}
use Rattle.std.specs.Char.{digit_value}
use Rattle.json_fault.specs.declared.mode.Within.TheVariants.{UnitD, Unit2, High2}
use Rattle.json_fault.proofs.StepsLemmas
use Rattle.json_fault.proofs.IsStringLemmas
use Rattle.json_fault.proofs.strings.unit_d.Goals as goal

pub returns-then-value-lt8 : goal.returns-then-value-lt8
returns-then-value-lt8 c = let value : digit_value c.args.byte ≡ c.digit-value.result = sym c.digit-value.ensures in StepsLemmas.passes-digit UnitD Unit2 _ refl refl (λ xs. IsStringLemmas.unitd-digit _ xs (omega arith)) (omega arith)

pub returns-then-value-lt12 : goal.returns-then-value-lt12
returns-then-value-lt12 c = let value : digit_value c.args.byte ≡ c.digit-value.result = sym c.digit-value.ensures in StepsLemmas.passes-digit UnitD High2 _ refl refl (λ xs. IsStringLemmas.unitd-high _ xs (omega arith) (omega arith)) (omega arith)

pub returns : goal.returns
returns c = let value : digit_value c.args.byte ≡ c.digit-value.result = sym c.digit-value.ensures in record { none = λ rest. IsStringLemmas.unitd-low _ rest (omega arith) }
