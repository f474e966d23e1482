use Rattle.std.proofs.Common.{◌≡◌, inl, inr, refl, sym, arith}
use Rattle.std.specs.Char.{digit_value}
use Rattle.json_fault.specs.declared.mode.Within.TheVariants.{Unit2, LowD}
use Rattle.json_fault.proofs.StepsLemmas
use Rattle.json_fault.proofs.IsStringLemmas
use Rattle.json_fault.proofs.strings.low_d.Goals as goal

pub returns-then-value-lt12 : goal.returns-then-value-lt12
returns-then-value-lt12 c = let value : digit_value c.args.byte ≡ c.digit-value.result = sym c.digit-value.ensures in record { none = λ rest. IsStringLemmas.low_d-other _ rest (inl (omega arith)) }

pub returns-then-value-lt16 : goal.returns-then-value-lt16
returns-then-value-lt16 c = let value : digit_value c.args.byte ≡ c.digit-value.result = sym c.digit-value.ensures in StepsLemmas.passes-digit LowD Unit2 _ refl refl (λ xs. IsStringLemmas.low_d-low _ xs (omega arith) (omega arith)) (omega arith)

pub returns : goal.returns
returns c = let value : digit_value c.args.byte ≡ c.digit-value.result = sym c.digit-value.ensures in record { none = λ rest. IsStringLemmas.low_d-other _ rest (inr (omega arith)) }
