use Rattle.std.proofs.Common.{ap, ◌∷◌, ◌≡◌}
use Rattle.std.proofs.Common.{true, false}
use Rattle.std.specs.Char.{is_ascii_digit}
use Rattle.json.specs.Word.{is_operator, is_space}
use Rattle.json_fault.specs.Rest.{after_part}
use Rattle.json_fault.specs.declared.mode.Number.TheVariants.{Fraction, Letter}
use Rattle.json_fault.proofs.StepsLemmas.{number-byte, number-digit, number-end}
use Rattle.json_fault.proofs.WordLemmas
use Rattle.json_fault.proofs.numbers.fraction.Goals as goal

pub returns-then-is_ascii_digit : goal.returns-then-is_ascii_digit
returns-then-is_ascii_digit c = let digit : is_ascii_digit c.args.byte ≡ true = cc in number-digit _ _ Fraction Fraction c.requires digit (λ xs. WordLemmas.fraction-digit c.args.byte xs digit)

pub returns-then-byte-eq101 : goal.returns-then-byte-eq101
returns-then-byte-eq101 c = let no_digit : is_ascii_digit c.args.byte ≡ false = cc in number-byte _ _ Fraction Letter c.requires (ap is_operator c.if-byte-eq101.true) (ap is_space c.if-byte-eq101.true) (λ xs. ap (λ y. after_part Fraction (y ∷ xs)) c.if-byte-eq101.true)

pub returns-then-byte-eq69 : goal.returns-then-byte-eq69
returns-then-byte-eq69 c = let no_digit : is_ascii_digit c.args.byte ≡ false = cc in number-byte _ _ Fraction Letter c.requires (ap is_operator c.if-byte-eq69.true) (ap is_space c.if-byte-eq69.true) (λ xs. ap (λ y. after_part Fraction (y ∷ xs)) c.if-byte-eq69.true)

pub returns : goal.returns
returns c = let no_digit : is_ascii_digit c.args.byte ≡ false = cc in number-end _ _ Fraction _ (λ xs. WordLemmas.fraction-end c.args.byte xs no_digit c.if-byte-eq101.false c.if-byte-eq69.false) c.after.ensures
