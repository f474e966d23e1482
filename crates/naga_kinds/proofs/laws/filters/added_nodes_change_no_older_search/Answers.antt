use Rattle.naga_kinds.proofs.FindsLemmas.{added-Finds}
use Rattle.naga_kinds.proofs.laws.filters.added_nodes_change_no_older_search.Goals as goal

pub returns : goal.returns
returns c nodes added leaf rule found precede within = added-Finds nodes added leaf rule found precede within
