use Rattle.std.proofs.Common.{subst}
use Rattle.naga_compact.specs.Module.Runs.{KeepsAllRuns}
use Rattle.naga_compact.proofs.KeepsRunsLemmas.{KeepsAllRuns-of}
use Rattle.naga_compact.proofs.module.compaction.compact.Goals as goal

pub returns-clause-runs : goal.returns-clause-runs
returns-clause-runs c =
    let kept = c.in_ok-compacted.renumbering in
    let compacted = c.in_ok-compacted.compacted in
    subst (λ whole. KeepsAllRuns whole kept compacted) c.replace-whole.ensures.value
    (KeepsAllRuns-of c.replace-whole.result c.args.keep_unused kept compacted c.in_ok-compacted.ensures.compacted)
