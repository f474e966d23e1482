use Rattle.std.proofs.Common.{refl}
use Rattle.json_fault.specs.declared.mode.Within.TheVariants.{Plain, Unit1, Unit2, Unit3, High2, High3, High}
use Rattle.json_fault.proofs.StepsLemmas
use Rattle.json_fault.proofs.IsStringLemmas
use Rattle.json_fault.proofs.strings.within.Goals as goal

pub hex-requires-clause-digit : goal.hex-requires-clause-digit
hex-requires-clause-digit c h = StepsLemmas.passes-digit Unit1 Unit2 _ refl refl (λ xs. IsStringLemmas.unit1-digit _ xs h) h

pub hex-requires-clause-other : goal.hex-requires-clause-other
hex-requires-clause-other c h = record { none = λ rest. IsStringLemmas.unit1-other _ rest h }

pub hex-requires-in-Unit2-clause-digit : goal.hex-requires-in-Unit2-clause-digit
hex-requires-in-Unit2-clause-digit c h = StepsLemmas.passes-digit Unit2 Unit3 _ refl refl (λ xs. IsStringLemmas.unit2-digit _ xs h) h

pub hex-requires-in-Unit2-clause-other : goal.hex-requires-in-Unit2-clause-other
hex-requires-in-Unit2-clause-other c h = record { none = λ rest. IsStringLemmas.unit2-other _ rest h }

pub hex-requires-in-Unit3-clause-digit : goal.hex-requires-in-Unit3-clause-digit
hex-requires-in-Unit3-clause-digit c h = StepsLemmas.passes-digit Unit3 Plain _ refl refl (λ xs. IsStringLemmas.unit3-digit _ xs h) h

pub hex-requires-in-Unit3-clause-other : goal.hex-requires-in-Unit3-clause-other
hex-requires-in-Unit3-clause-other c h = record { none = λ rest. IsStringLemmas.unit3-other _ rest h }

pub hex-requires-in-High2-clause-digit : goal.hex-requires-in-High2-clause-digit
hex-requires-in-High2-clause-digit c h = StepsLemmas.passes-digit High2 High3 _ refl refl (λ xs. IsStringLemmas.high2-digit _ xs h) h

pub hex-requires-in-High2-clause-other : goal.hex-requires-in-High2-clause-other
hex-requires-in-High2-clause-other c h = record { none = λ rest. IsStringLemmas.high2-other _ rest h }

pub hex-requires-in-High3-clause-digit : goal.hex-requires-in-High3-clause-digit
hex-requires-in-High3-clause-digit c h = StepsLemmas.passes-digit High3 High _ refl refl (λ xs. IsStringLemmas.high3-digit _ xs h) h

pub hex-requires-in-High3-clause-other : goal.hex-requires-in-High3-clause-other
hex-requires-in-High3-clause-other c h = record { none = λ rest. IsStringLemmas.high3-other _ rest h }
