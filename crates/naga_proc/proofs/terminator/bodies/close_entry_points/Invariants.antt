use Rattle.naga_compact.proofs.AllZipLemmas.{ReplacedTo}
use Rattle.naga_proc.specs.Bodies.{ChangesEntryBody}
use Rattle.naga_proc.specs.Closing.{ClosedBy}
use Rattle.naga_proc.proofs.terminator.bodies.close_entry_points.Given as goal

-- the entry points before the index are closed
abbrev pub invariant-entry_points : goal.invariant-entry_points
invariant-entry_points l = ReplacedTo (ChangesEntryBody (ClosedBy l.rule)) l.entry_point-index l.initial.entry_points l.entry_points
