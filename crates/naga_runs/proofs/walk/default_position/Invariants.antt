use Rattle.std.proofs.Common.{◌≡◌, ◌+◌}
use Rattle.naga_ir.specs.View.{cases_of}
use Rattle.naga_runs.specs.Runs.{first_default, values}
use Rattle.naga_runs.proofs.FirstDefaultLemmas.{default_from}
use Rattle.naga_runs.proofs.walk.default_position.Given as goal

-- no case before `i` is a default case
abbrev pub invariant-loop-i : goal.invariant-loop-i
invariant-loop-i l = first_default (values (cases_of l.cases)) ≡ l.i + default_from l.cases l.i
