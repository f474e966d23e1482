use Rattle.naga_compact.proofs.AllZipLemmas.{ReplacedTo}
use Rattle.naga_proc.proofs.Bodies.ChangesBodiesLemmas.{IsReservedEntry}
use Rattle.naga_proc.proofs.terminator.bodies.reserve_in_functions.Given as goal

-- space is reserved in the functions before the index
abbrev pub invariant-functions : goal.invariant-functions
invariant-functions l = ReplacedTo (IsReservedEntry l.rule) l.index l.initial.functions l.functions
