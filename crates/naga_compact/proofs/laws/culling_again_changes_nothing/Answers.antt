use Rattle.naga_compact.proofs.CulledLemmas.{culled-IsCulled, culled-culled}
use Rattle.naga_compact.proofs.laws.culling_again_changes_nothing.Goals as goal

pub returns-clause-again : goal.returns-clause-again
returns-clause-again c = culled-culled

pub returns-clause-nothing_follows : goal.returns-clause-nothing_follows
returns-clause-nothing_follows c = culled-IsCulled
