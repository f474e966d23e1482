use Rattle.std.proofs.Common.{◌≡◌, map, drop}
use Rattle.naga_schema.specs.Fault.{has_name}
use Rattle.naga_schema.proofs.look.has_member.Given as goal

abbrev pub invariant-loop-member : goal.invariant-loop-member
invariant-loop-member l = has_name (map (λ m. m.0.now) (drop l.member-index l.members)) l.name ≡ has_name (map (λ m. m.0.now) l.members) l.name
