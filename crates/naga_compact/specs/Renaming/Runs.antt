-- The handles that runs contain, renamed.
use Rattle.naga_ir.specs.Tree.{Tree}
use Rattle.naga_runs.specs.Runs.{Run}
use Rattle.naga_compact.specs.Mapping.Runs.{MappedRunsFit, map_run}
use Rattle.naga_compact.specs.Renaming.{Renaming}
use Rattle.naga_compact.specs.derived.Renaming.{rename_statement}

module _ (r : Renaming) where
  -- the same run, except that its plain statements and the value that it returns are renamed
  abbrev pub rename_run : Run → Run
  rename_run = map_run (rename_statement r) r.expressions

  -- each run of the first block, renamed, is a run of the second, for the same answers and the same number of turns
  abbrev pub RenamedRunsFit : Tree → Tree → Type 0
  RenamedRunsFit = MappedRunsFit (rename_statement r) r.expressions
