-- The runs of a closed block, as they follow from the runs of the original block.
--
-- A run that is turned keeps its trace, the answers that it used and its slipped mark. It keeps its ending, too, unless
-- it ended normally and not slipped: then it returns without a value.
use Rattle.std.specs.Prelude.{◌⊎◌, ℕ, Bool, false, List, None}
use Rattle.naga_ir.specs.Tree.{Tree}
use Rattle.naga_runs.specs.Runs.{BlockRuns, Run}
use Rattle.naga_runs.specs.RunsFit.{MapsRuns}
use Rattle.naga_runs.specs.declared.run.Ending.{Ending}
use Rattle.naga_runs.specs.declared.run.Ending.TheVariants.{Normal, Return}

-- falling off the end becomes a return, unless the run slipped out of a switch there
abbrev pub turned_ending : Ending → Bool → Ending
turned_ending Normal false = Return None
turned_ending ending slipped = ending

abbrev pub turned : Run → Run
turned run = record run { ending = turned_ending run.ending run.slipped }

-- each run of the first block is a run of the second, except that it returns where it fell off the end, unless it
-- slipped out of a switch there
abbrev pub Turned : Tree → Tree → Type 0
Turned = MapsRuns turned

-- each run of the first block is a run of the second, either with that change or without it
abbrev pub Spared : Tree → Tree → Type 0
Spared b c = (turns : ℕ) (answers : List ℕ) (run : Run) → BlockRuns turns b answers run →
    BlockRuns turns c answers run ⊎ BlockRuns turns c answers (turned run)
