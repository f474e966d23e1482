use Rattle.naga_compact.specs.Module.Compaction.{HasCompactedFunction}
use Rattle.naga_compact.proofs.AllZipLemmas.{ReplacedTo}
use Rattle.naga_compact.proofs.module.functions.compact_entry_points.Given as goal

-- the functions of the entry points before the index are compacted
abbrev pub invariant-entry_points : goal.invariant-entry_points
invariant-entry_points l = ReplacedTo HasCompactedFunction l.entry_point-index l.initial.entry_points l.entry_points
