use Rattle.std.proofs.Common.{◌≡◌, ◌∙◌, ap, refl, true}
use Rattle.naga_flow.proofs.StructuredLemmas.{BlockRuns-may_end, may_end-function}
use Rattle.naga_flow.specs.Structured.{jumps_are_structured, of_function}
use Rattle.naga_proc.proofs.Closing.ClosedByLemmas.{ClosedBy-is}
use Rattle.naga_meaning.proofs.CulledLemmas.{FullyClosed-diverges}
use Rattle.naga_meaning.proofs.Uses.StructuredLemmas.{closed-is_structured}
use Rattle.naga_proc.specs.Closing.{closed}
use Rattle.naga_proc.specs.declared.terminator.rule.Rule.TheVariants.{New}
use Rattle.naga_runs.proofs.DivergesLemmas.{diverges-NeverFallsOff}
use Rattle.naga_meaning.proofs.laws.jumps.checked_and_closed_body_returns.Goals as goal

pub returns : goal.returns
returns call body new turns answers run h closing d =
    let is : new ≡ closed New body = (ClosedBy-is New body new).0 closing in
    let structured : jumps_are_structured new ≡ true = ap jumps_are_structured is ∙ closed-is_structured New of_function body refl h in
    may_end-function run.ending (BlockRuns-may_end of_function d structured) (diverges-NeverFallsOff new (FullyClosed-diverges body new closing) turns answers run d)
