use Rattle.naga_compact.proofs.AllZipLemmas.{ReplacedTo}
use Rattle.naga_proc.proofs.Bodies.ChangesBodiesLemmas.{IsReservedEntryPoint}
use Rattle.naga_proc.proofs.terminator.bodies.reserve_in_entry_points.Given as goal

-- space is reserved in the entry points before the index
abbrev pub invariant-entry_points : goal.invariant-entry_points
invariant-entry_points l = ReplacedTo (IsReservedEntryPoint l.rule) l.entry_point-index l.initial.entry_points l.entry_points
