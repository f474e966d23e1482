use Rattle.std.proofs.Common.{◌≡◌, ◌++◌, map, take}
use Rattle.naga_look.specs.Findings.{inside_of, return_finding}
use Rattle.naga_look.proofs.finding.body.push_each_return.Given as goal

-- the blocks before the position were appended
abbrev pub invariant-paths : goal.invariant-paths
invariant-paths l = l.found.items ≡ l.initial.found.items ++ map (return_finding (inside_of l.body)) (take l.position l.paths)
