use Rattle.naga_compact.proofs.AllZipLemmas.{ReplacedTo}
use Rattle.naga_proc.specs.Closing.{ClosedBy}
use Rattle.naga_proc.proofs.Bodies.ChangesBodiesLemmas.{ChangesEntry}
use Rattle.naga_proc.proofs.terminator.bodies.close_functions.Given as goal

-- the functions before the index are closed
abbrev pub invariant-functions : goal.invariant-functions
invariant-functions l = ReplacedTo (ChangesEntry (ClosedBy l.rule)) l.index l.initial.functions l.functions
