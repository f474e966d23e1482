use Rattle.std.proofs.Common.{refl}
use Rattle.naga_proc.proofs.Closing.BetweenLemmas.{Between-itself, Closed-Between}
use Rattle.naga_proc.proofs.laws.closing.block_and_its_closing_are_between.Goals as goal

pub returns-clause-block : goal.returns-clause-block
returns-clause-block c = λ b. Between-itself b b refl

pub returns-clause-closing : goal.returns-clause-closing
returns-clause-closing c = Closed-Between
