use Rattle.std.proofs.Common.{ap, ◌∷◌, ◌≡◌}
use Rattle.std.proofs.Common.{true}
use Rattle.std.specs.Char.{is_ascii_digit}
use Rattle.json.specs.Word.{is_operator, is_space}
use Rattle.json_fault.specs.Rest.{after_part}
use Rattle.json_fault.specs.declared.mode.Number.TheVariants.{Letter, Sign, Exponent}
use Rattle.json_fault.proofs.StepsLemmas.{number-byte, number-digit}
use Rattle.json_fault.proofs.WordLemmas
use Rattle.json_fault.proofs.numbers.letter.Goals as goal

pub returns-then-byte-eq43 : goal.returns-then-byte-eq43
returns-then-byte-eq43 c outer r = number-byte outer _ Letter Sign r (ap is_operator c.if-byte-eq43.true) (ap is_space c.if-byte-eq43.true) (λ xs. ap (λ y. after_part Letter (y ∷ xs)) c.if-byte-eq43.true)

pub returns-then-byte-eq45 : goal.returns-then-byte-eq45
returns-then-byte-eq45 c outer r = number-byte outer _ Letter Sign r (ap is_operator c.if-byte-eq45.true) (ap is_space c.if-byte-eq45.true) (λ xs. ap (λ y. after_part Letter (y ∷ xs)) c.if-byte-eq45.true)

pub returns-then-is_ascii_digit : goal.returns-then-is_ascii_digit
returns-then-is_ascii_digit c outer r = let digit : is_ascii_digit c.args.byte ≡ true = cc in number-digit outer _ Letter Exponent r digit (λ xs. WordLemmas.letter-digit c.args.byte xs digit)
