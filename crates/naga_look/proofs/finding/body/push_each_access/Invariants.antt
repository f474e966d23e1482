use Rattle.std.proofs.Common.{◌≡◌, ◌++◌, map, take}
use Rattle.naga_look.specs.Findings.{inside_of, access_finding}
use Rattle.naga_look.proofs.finding.body.push_each_access.Given as goal

-- the accesses before the position were appended
abbrev pub invariant-accesses : goal.invariant-accesses
invariant-accesses l = l.found.items ≡ l.initial.found.items ++ map (access_finding (inside_of l.body)) (take l.position l.accesses)
