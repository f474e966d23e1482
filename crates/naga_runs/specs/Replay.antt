-- The run that a `Replay` represents.
pub mod Walking
use Rattle.std.specs.Prelude.{List, map}
use Rattle.std.specs.Borrow.{Bor}
use Rattle.naga_ir.specs.declared.statement.Statement.{Statement}
use Rattle.naga_runs.specs.Runs.{Run}
use Rattle.naga_runs.specs.declared.run.Replay.{Replay}

-- the statements that are referred to
abbrev pub met : List (Bor Statement) → List Statement
met = map (λ statement. statement.now)

-- the run that a replay represents
abbrev pub told : Replay → Run
told replay = record {
  trace = met replay.trace.items;
  ending = replay.ending;
  used = replay.used;
  slipped = replay.slipped;
}
