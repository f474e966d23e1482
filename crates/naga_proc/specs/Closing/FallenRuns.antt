-- The runs of a fully closed block, as they follow from the runs of the original block.
--
-- A run that is fallen keeps its trace and the answers that it used. It keeps its ending, too, unless it ended
-- normally, slipped or not: then it returns without a value, and is not slipped.
use Rattle.std.specs.Prelude.{false, None}
use Rattle.naga_ir.specs.Tree.{Tree}
use Rattle.naga_runs.specs.Runs.{Run}
use Rattle.naga_runs.specs.RunsFit.{MapsRuns}
use Rattle.naga_runs.specs.declared.run.Ending.{Ending}
use Rattle.naga_runs.specs.declared.run.Ending.TheVariants.{Normal, Return}

-- falling off the end becomes a return, even if the run slipped out of a switch there
abbrev pub fallen_by : Ending → Run → Run
fallen_by Normal run = record run { ending = Return None; slipped = false }
fallen_by ending run = run

abbrev pub fallen : Run → Run
fallen run = fallen_by run.ending run

-- each run of the first block is a run of the second, except that it returns where it fell off the end
abbrev pub Fallen : Tree → Tree → Type 0
Fallen = MapsRuns fallen
