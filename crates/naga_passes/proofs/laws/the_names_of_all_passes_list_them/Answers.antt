use Rattle.naga_passes.proofs.ListsLemmas.{Lists-all}
use Rattle.naga_passes.proofs.laws.the_names_of_all_passes_list_them.Goals as goal

pub returns : goal.returns
returns c = Lists-all
