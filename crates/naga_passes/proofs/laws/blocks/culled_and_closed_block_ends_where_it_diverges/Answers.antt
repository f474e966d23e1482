use Rattle.naga_compact.specs.Culling.{culled}
use Rattle.naga_compact.proofs.CulledLemmas.{culled-IsCulled}
use Rattle.naga_runs.proofs.DivergesLemmas.{diverges-NeverFallsOff}
use Rattle.naga_proc.specs.declared.terminator.rule.Rule.TheVariants.{New}
use Rattle.naga_meaning.proofs.CulledLemmas.{ClosedBy-IsCulled, FullyClosed-diverges}
use Rattle.naga_passes.proofs.laws.blocks.culled_and_closed_block_ends_where_it_diverges.Goals as goal

pub returns-clause-falls : goal.returns-clause-falls
returns-clause-falls call b c h = diverges-NeverFallsOff c (FullyClosed-diverges (culled b) c h)

pub returns-clause-nothing_follows : goal.returns-clause-nothing_follows
returns-clause-nothing_follows call b c h = ClosedBy-IsCulled New (culled b) c (culled-IsCulled b) h

pub returns-clause-diverges : goal.returns-clause-diverges
returns-clause-diverges call = FullyClosed-diverges

pub returns-clause-stays_culled : goal.returns-clause-stays_culled
returns-clause-stays_culled call = ClosedBy-IsCulled
