use Rattle.std.proofs.Common.{◌≡◌, map, drop}
use Rattle.naga_schema.specs.Fault.{has_name}
use Rattle.naga_schema.proofs.look.has_name.Given as goal

abbrev pub invariant-loop-other : goal.invariant-loop-other
invariant-loop-other l = has_name (map (λ n. n.now) (drop l.other-index l.names)) l.name ≡ has_name (map (λ n. n.now) l.names) l.name
