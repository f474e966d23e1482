use Rattle.std.proofs.Common.{◌≡◌}
use Rattle.std.proofs.Common.{true}
use Rattle.std.specs.Char.{is_ascii_digit}
use Rattle.json_fault.specs.declared.mode.Number.TheVariants.{Dot, Fraction}
use Rattle.json_fault.proofs.StepsLemmas.{number-digit}
use Rattle.json_fault.proofs.WordLemmas
use Rattle.json_fault.proofs.numbers.dot.Goals as goal

pub returns-then-is_ascii_digit : goal.returns-then-is_ascii_digit
returns-then-is_ascii_digit c outer r = let digit : is_ascii_digit c.args.byte ≡ true = cc in number-digit outer _ Dot Fraction r digit (λ xs. WordLemmas.dot-digit c.args.byte xs digit)
