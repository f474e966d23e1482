-- Runs in which plain statements, and the value that is returned, are replaced.
use Rattle.std.specs.Prelude.{ℕ, List, map, option_map}
use Rattle.naga_ir.specs.Tree.{Tree}
use Rattle.naga_ir.specs.declared.statement.Statement.{Statement}
use Rattle.naga_runs.specs.Runs.{BlockRuns, Run}
use Rattle.naga_runs.specs.declared.run.Ending.{Ending}
use Rattle.naga_runs.specs.declared.run.Ending.TheVariants.{Return}

abbrev pub map_ending : (ℕ → ℕ) → Ending → Ending
map_ending on_expression (Return value) = Return (option_map on_expression value)
map_ending on_expression ending = ending

module _ (on_plain : Statement → Statement) (on_expression : ℕ → ℕ) where
  -- the same run, except that its plain statements and the value that it returns are replaced
  abbrev pub map_run : Run → Run
  map_run run = record run { trace = map on_plain run.trace; ending = map_ending on_expression run.ending }

  -- each run of the first block, with these replaced, is a run of the second, for the same answers and the same number
  -- of turns
  abbrev pub MappedRunsFit : Tree → Tree → Type 0
  MappedRunsFit old new =
      (turns : ℕ) (answers : List ℕ) (run : Run) → BlockRuns turns old answers run → BlockRuns turns new answers (map_run run)
