use Rattle.std.proofs.Common.{ap, ◌∷◌}
use Rattle.json.specs.Word.{is_operator, is_space}
use Rattle.json_fault.specs.Rest.{after_part}
use Rattle.json_fault.specs.declared.mode.Number.TheVariants.{Zero, Dot, Letter}
use Rattle.json_fault.proofs.StepsLemmas.{number-byte, number-end}
use Rattle.json_fault.proofs.WordLemmas
use Rattle.json_fault.proofs.numbers.point.Goals as goal

pub returns-then-byte-eq46 : goal.returns-then-byte-eq46
returns-then-byte-eq46 c = number-byte _ _ Zero Dot c.requires.reached (ap is_operator c.if-byte-eq46.true) (ap is_space c.if-byte-eq46.true) (λ xs. ap (λ y. after_part Zero (y ∷ xs)) c.if-byte-eq46.true)

pub returns-then-byte-eq101 : goal.returns-then-byte-eq101
returns-then-byte-eq101 c = number-byte _ _ Zero Letter c.requires.reached (ap is_operator c.if-byte-eq101.true) (ap is_space c.if-byte-eq101.true) (λ xs. ap (λ y. after_part Zero (y ∷ xs)) c.if-byte-eq101.true)

pub returns-then-byte-eq69 : goal.returns-then-byte-eq69
returns-then-byte-eq69 c = number-byte _ _ Zero Letter c.requires.reached (ap is_operator c.if-byte-eq69.true) (ap is_space c.if-byte-eq69.true) (λ xs. ap (λ y. after_part Zero (y ∷ xs)) c.if-byte-eq69.true)

pub returns : goal.returns
returns c = number-end _ _ Zero _ (λ xs. WordLemmas.zero-end c.args.byte xs c.if-byte-eq46.false c.if-byte-eq101.false c.if-byte-eq69.false) c.after.ensures
