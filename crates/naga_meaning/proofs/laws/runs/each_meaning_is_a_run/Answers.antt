use Rattle.naga_meaning.proofs.IsARunLemmas.{does-IsARun}
use Rattle.naga_meaning.proofs.laws.runs.each_meaning_is_a_run.Goals as goal

pub returns : goal.returns
returns g c = does-IsARun
