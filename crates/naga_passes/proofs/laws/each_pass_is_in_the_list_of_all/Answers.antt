use Rattle.naga_passes.proofs.ListsLemmas.{Contains-all}
use Rattle.naga_passes.proofs.laws.each_pass_is_in_the_list_of_all.Goals as goal

pub returns : goal.returns
returns c = Contains-all
