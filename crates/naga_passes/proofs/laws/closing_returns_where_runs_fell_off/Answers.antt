use Rattle.naga_proc.specs.Closing.{Closed, FullyClosed}
use Rattle.naga_proc.specs.Closing.FallenRuns.{Fallen}
use Rattle.naga_proc.specs.Closing.KeptRuns.{Turned}
use Rattle.naga_proc.specs.declared.terminator.rule.Rule.TheVariants.{New, Old}
use Rattle.naga_proc.proofs.Closing.FallenLemmas.{FullyClosed-Fallen}
use Rattle.naga_proc.proofs.Closing.TurnedLemmas.{Closed-Turned}
use Rattle.naga_passes.specs.declared.pass.Pass.TheVariants.{Close}
use Rattle.naga_passes.proofs.BodiesComeFromLemmas.{BodiesComeFrom-transformed, BodiesComeFrom-weaker}
use Rattle.naga_passes.proofs.laws.closing_returns_where_runs_fell_off.Goals as goal

pub returns-clause-new_rule : goal.returns-clause-new_rule
returns-clause-new_rule c old new closes =
    BodiesComeFrom-weaker FullyClosed Fallen FullyClosed-Fallen old new (BodiesComeFrom-transformed (Close New) old new closes)

pub returns-clause-old_rule : goal.returns-clause-old_rule
returns-clause-old_rule c old new closes =
    BodiesComeFrom-weaker Closed Turned Closed-Turned old new (BodiesComeFrom-transformed (Close Old) old new closes)
