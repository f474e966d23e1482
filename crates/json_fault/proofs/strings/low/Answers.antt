use Rattle.std.proofs.Common.{◌≡◌, refl, sym, ◌∙◌, arith}
use Rattle.std.specs.Char.{digit_value}
use Rattle.json_fault.specs.declared.mode.Within.TheVariants.{Low, LowD}
use Rattle.json_fault.proofs.StepsLemmas
use Rattle.json_fault.proofs.IsStringLemmas
use Rattle.json_fault.proofs.strings.low.Goals as goal

pub returns-then-digit-eq13 : goal.returns-then-digit-eq13
returns-then-digit-eq13 c = let value : digit_value c.args.byte ≡ 13 = sym c.digit.ensures ∙ c.if-digit-eq13.true in StepsLemmas.passes-digit Low LowD _ refl refl (λ xs. IsStringLemmas.low-d _ xs value) (omega arith)

pub returns : goal.returns
returns c = record { none = λ rest. IsStringLemmas.low-other _ rest (λ e. c.if-digit-eq13.false (c.digit.ensures ∙ e)) }
