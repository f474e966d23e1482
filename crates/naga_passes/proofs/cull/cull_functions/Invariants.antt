use Rattle.naga_compact.proofs.AllZipLemmas.{ReplacedTo}
use Rattle.naga_proc.proofs.Bodies.ChangesBodiesLemmas.{ChangesEntry}
use Rattle.naga_passes.specs.Culling.{Culled}
use Rattle.naga_passes.proofs.cull.cull_functions.Given as goal

-- the functions before the index are culled
abbrev pub invariant-functions : goal.invariant-functions
invariant-functions l = ReplacedTo (ChangesEntry Culled) l.index l.initial.functions l.functions
