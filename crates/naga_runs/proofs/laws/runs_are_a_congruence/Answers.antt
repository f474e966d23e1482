use Rattle.naga_runs.proofs.AlikeLemmas.{Alike-RunsFit}
use Rattle.naga_runs.proofs.laws.runs_are_a_congruence.Goals as goal

pub returns : goal.returns
returns c = Alike-RunsFit
