use Rattle.naga_kinds.specs.contracts.diagnostic_filter.FilterableTriggeringRuleEq.TheImpl.Laws.{laws-law}
use Rattle.naga_kinds.proofs.FirstOfEachLemmas.{first_of_each-first_of_each}
use Rattle.naga_kinds.proofs.laws.filters.first_pairs_stay.Goals as goal

pub returns : goal.returns
returns c pairs pair = first_of_each-first_of_each laws-law pairs pair
