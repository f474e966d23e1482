use Rattle.std.proofs.Common.{◌∙◌, sym}
use Rattle.naga_runs.proofs.BlockRunsLemmas.{BlockRuns-one_run}
use Rattle.naga_compact.specs.Renaming.Runs.{rename_run}
use Rattle.naga_compact.proofs.laws.renamed_runs_are_all_runs.Goals as goal

pub returns : goal.returns
returns c =
    λ f old new fit turns answers run runs.
    let before = BlockRuns-one_run turns old answers in
    let after = BlockRuns-one_run turns new answers in
    (before.0, before.1, after.2 run runs ∙ sym (after.2 (rename_run f before.0) (fit turns answers before.0 before.1)))
