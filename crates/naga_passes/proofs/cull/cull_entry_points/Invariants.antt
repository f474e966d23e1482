use Rattle.naga_compact.proofs.AllZipLemmas.{ReplacedTo}
use Rattle.naga_proc.specs.Bodies.{ChangesEntryBody}
use Rattle.naga_passes.specs.Culling.{Culled}
use Rattle.naga_passes.proofs.cull.cull_entry_points.Given as goal

-- the entry points before the index are culled
abbrev pub invariant-entry_points : goal.invariant-entry_points
invariant-entry_points l = ReplacedTo (ChangesEntryBody Culled) l.entry_point-index l.initial.entry_points l.entry_points
