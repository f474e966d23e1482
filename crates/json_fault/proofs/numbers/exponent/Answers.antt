use Rattle.std.proofs.Common.{◌≡◌}
use Rattle.std.proofs.Common.{true, false}
use Rattle.std.specs.Char.{is_ascii_digit}
use Rattle.json_fault.specs.declared.mode.Number.TheVariants.{Exponent}
use Rattle.json_fault.proofs.StepsLemmas.{number-digit, number-end}
use Rattle.json_fault.proofs.WordLemmas
use Rattle.json_fault.proofs.numbers.exponent.Goals as goal

pub returns-then-is_ascii_digit : goal.returns-then-is_ascii_digit
returns-then-is_ascii_digit c = let digit : is_ascii_digit c.args.byte ≡ true = cc in number-digit _ _ Exponent Exponent c.requires digit (λ xs. WordLemmas.more_digits c.args.byte xs digit)

pub returns : goal.returns
returns c = let no_digit : is_ascii_digit c.args.byte ≡ false = cc in number-end _ _ Exponent _ (λ xs. WordLemmas.digits_end c.args.byte xs no_digit) c.after.ensures
