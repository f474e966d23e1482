use Rattle.std.proofs.Common.{◌≡◌, refl, sym, ◌∙◌, arith}
use Rattle.std.specs.Char.{digit_value}
use Rattle.json_fault.specs.declared.mode.Within.TheVariants.{Unit, UnitD, Unit1}
use Rattle.json_fault.proofs.StepsLemmas
use Rattle.json_fault.proofs.IsStringLemmas
use Rattle.json_fault.proofs.strings.unit.Goals as goal

pub returns-then-value-eq13 : goal.returns-then-value-eq13
returns-then-value-eq13 c = let value : digit_value c.args.byte ≡ c.digit-value.result = sym c.digit-value.ensures in StepsLemmas.passes-digit Unit UnitD _ refl refl (λ xs. IsStringLemmas.unit-d _ xs (value ∙ c.if-value-eq13.true)) (omega arith)

pub returns-then-value-lt16 : goal.returns-then-value-lt16
returns-then-value-lt16 c = let value : digit_value c.args.byte ≡ c.digit-value.result = sym c.digit-value.ensures in StepsLemmas.passes-digit Unit Unit1 _ refl refl (λ xs. IsStringLemmas.unit-digit _ xs (omega arith) (λ e. c.if-value-eq13.false (sym value ∙ e))) (omega arith)

pub returns : goal.returns
returns c = let value : digit_value c.args.byte ≡ c.digit-value.result = sym c.digit-value.ensures in record { none = λ rest. IsStringLemmas.unit-other _ rest (omega arith) }
