-- Runs that are mapped from one block to another.
use Rattle.std.proofs.Common.{◌≡◌, ℕ, List, subst, sym}
use Rattle.naga_ir.specs.Tree.{Tree}
use Rattle.naga_runs.proofs.BlockRunsLemmas.{BlockRuns-only, BlockRuns-run}
use Rattle.naga_runs.proofs.Execution.{run}
use Rattle.naga_runs.specs.Runs.{BlockRuns, Run}
use Rattle.naga_runs.specs.RunsFit.{MapsRuns}

-- since each block has one run
pub MapsRuns-from_run : (change : Run → Run) (b c : Tree) → ((n : ℕ) (answers : List ℕ) → run n c answers ≡ change (run n b answers)) → MapsRuns change b c
MapsRuns-from_run change b c h n answers r d =
    subst (λ x. BlockRuns n c answers (change x)) (sym (BlockRuns-only d))
    (subst (λ x. BlockRuns n c answers x) (h n answers) (BlockRuns-run n c answers))

pub MapsRuns-run : (change : Run → Run) (b c : Tree) → MapsRuns change b c → (n : ℕ) (answers : List ℕ) → run n c answers ≡ change (run n b answers)
MapsRuns-run change b c h n answers = sym (BlockRuns-only (h n answers (run n b answers) (BlockRuns-run n b answers)))
