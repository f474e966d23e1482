use Rattle.std.proofs.Common.{◌≡◌, false, take}
use Rattle.std.specs.List.{list_any}
use Rattle.naga_runs.proofs.BreaksOutLemmas.{body_breaks}
use Rattle.naga_runs.proofs.exits.a_case_breaks.Given as goal

-- the bodies so far contain no break
abbrev pub invariant-loop-case : goal.invariant-loop-case
invariant-loop-case l = list_any body_breaks (take l.case-index l.cases) ≡ false
