use Rattle.naga_compact.proofs.RangeKeptLemmas.{range_kept}
use Rattle.naga_compact.proofs.laws.ranges_keep_what_is_kept.Goals as goal

pub returns : goal.returns
returns c = range_kept
