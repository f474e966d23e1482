use Rattle.std.proofs.Common.{ap, ◌∷◌, ◌≡◌}
use Rattle.std.proofs.Common.{true}
use Rattle.std.specs.Char.{is_ascii_digit}
use Rattle.json_fault.specs.Rest.{after_part}
use Rattle.json_fault.specs.declared.mode.Number.TheVariants.{Minus, Zero, Whole}
use Rattle.json_fault.proofs.StepsLemmas.{number-digit}
use Rattle.json_fault.proofs.WordLemmas
use Rattle.json_fault.proofs.numbers.minus.Goals as goal

pub returns-then-byte-eq48 : goal.returns-then-byte-eq48
returns-then-byte-eq48 c outer r = number-digit outer _ Minus Zero r (ap is_ascii_digit c.if-byte-eq48.true) (λ xs. ap (λ y. after_part Minus (y ∷ xs)) c.if-byte-eq48.true)

pub returns-then-is_ascii_digit : goal.returns-then-is_ascii_digit
returns-then-is_ascii_digit c outer r = let digit : is_ascii_digit c.args.byte ≡ true = cc in number-digit outer _ Minus Whole r digit (λ xs. WordLemmas.minus-digit c.args.byte xs digit c.if-byte-eq48.false)
