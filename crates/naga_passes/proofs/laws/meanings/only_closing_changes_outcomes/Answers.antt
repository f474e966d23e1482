use Rattle.naga_passes.proofs.OutcomeAfterLemmas.{outcome_after-new, outcome_after-none, outcome_after-old}
use Rattle.naga_passes.proofs.laws.meanings.only_closing_changes_outcomes.Goals as goal

pub returns-clause-neither : goal.returns-clause-neither
returns-clause-neither g c = outcome_after-none

pub returns-clause-new_rule : goal.returns-clause-new_rule
returns-clause-new_rule g c = outcome_after-new

pub returns-clause-old_rule : goal.returns-clause-old_rule
returns-clause-old_rule g c = outcome_after-old
