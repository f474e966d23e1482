use Rattle.std.proofs.Common.{◌≡◌, ◌≤◌, drop}
use Rattle.naga_ir.specs.View.{cases_of}
use Rattle.naga_flow.specs.Paths.{path_at, paths_in_cases}
use Rattle.naga_flow.proofs.path.place_in_cases.Given as goal

-- the path is that with the number that is left, in the cases from this one on
abbrev pub invariant-cases : goal.invariant-cases
invariant-cases l = record {
  path : path_at (paths_in_cases l.position (cases_of (drop l.position l.cases))) l.left ≡ path_at (paths_in_cases 0 (cases_of l.cases)) l.number;
  lower : l.left ≤ l.number;
}
