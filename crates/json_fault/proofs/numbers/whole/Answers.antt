use Rattle.std.proofs.Common.{◌≡◌}
use Rattle.std.proofs.Common.{true, false}
use Rattle.std.specs.Char.{is_ascii_digit}
use Rattle.json_fault.specs.declared.mode.Number.TheVariants.{Zero, Whole}
use Rattle.json_fault.proofs.StepsLemmas.{number-as, number-digit}
use Rattle.json_fault.proofs.WordLemmas
use Rattle.json_fault.proofs.numbers.whole.Goals as goal

pub returns-then-is_ascii_digit : goal.returns-then-is_ascii_digit
returns-then-is_ascii_digit c = let digit : is_ascii_digit c.args.byte ≡ true = cc in number-digit _ _ Whole Whole c.requires digit (λ xs. WordLemmas.whole-digit c.args.byte xs digit)

pub returns : goal.returns
returns c = let no_digit : is_ascii_digit c.args.byte ≡ false = cc in number-as _ _ Whole Zero _ (λ xs. WordLemmas.whole-other c.args.byte xs no_digit) c.point.ensures
