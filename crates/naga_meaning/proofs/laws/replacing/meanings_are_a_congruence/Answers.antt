use Rattle.naga_meaning.proofs.AlikeLemmas.{branch-always, does-alike}
use Rattle.naga_meaning.proofs.laws.replacing.meanings_are_a_congruence.Goals as goal

pub returns-clause-all : goal.returns-clause-all
returns-clause-all g c = λ machine old new alike turns state. does-alike machine alike turns state

pub returns-clause-constant : goal.returns-clause-constant
returns-clause-constant g c = branch-always
