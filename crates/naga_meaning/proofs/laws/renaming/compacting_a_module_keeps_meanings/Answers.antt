use Rattle.naga_meaning.proofs.KeepsMeaningsLemmas.{KeepsMeanings-of}
use Rattle.naga_meaning.proofs.laws.renaming.compacting_a_module_keeps_meanings.Goals as goal

pub returns : goal.returns
returns g c = KeepsMeanings-of
