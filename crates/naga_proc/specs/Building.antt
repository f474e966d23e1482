-- The results of lists of commands, and the lists of commands that are rejected.
--
-- The first Start goes with the first Finish, and so on; the last Start may have no Finish. A Start while the emitter
-- is running and a Finish while it is not are out of turn. An error has the position of the first command that is out
-- of turn; or it is `Full`, if there is an Append for which no handle is left and no command before it is out of turn;
-- or an allocation failed.
pub mod Emission
use Rattle.std.specs.Prelude.{◌≡◌, ℕ, suc, ◌<◌, ◌≤◌, ◌⊎◌, Bool, true, false, List, [], ◌∷◌, ◌++◌, length, map, take, filter, fold, Any, zip, slice_get, option_to_list, Some, ⊤}
use Rattle.naga_arena.specs.Arena.{max_len}
use Rattle.naga_arena.specs.declared.arena.ArenaError.{ArenaError}
use Rattle.naga_arena.specs.declared.arena.ArenaError.TheVariants.{Full as no_handle, Memory as no_memory}
use Rattle.naga_arena.specs.declared.span.Span.{Span}
use Rattle.naga_ir.specs.declared.expression.Expression.{Expression}
use Rattle.naga_ir.specs.declared.statement.Statement.{Statement}
use Rattle.naga_proc.specs.Building.Emission.{is_filled, emission}
use Rattle.naga_proc.specs.declared.builder.BuildCommand.{BuildCommand}
use Rattle.naga_proc.specs.declared.builder.BuildCommand.TheVariants.{Start, Append, Finish, Push}
use Rattle.naga_proc.specs.declared.builder.BuildError.{BuildError}
use Rattle.naga_proc.specs.declared.builder.BuildError.TheVariants.{AlreadyRunning, NotRunning, Full, Memory}

-- ---- the results of commands

-- the expressions of the Append commands, each with its span
abbrev pub appended : List BuildCommand → List (Expression × Span)
appended [] = []
appended (Append expression span ∷ rest) = (expression, span) ∷ appended rest
appended (_ ∷ rest) = appended rest

-- for each Start, the number of Append commands before it
abbrev pub starts : List BuildCommand → List ℕ
starts [] = []
starts (Start ∷ rest) = 0 ∷ starts rest
starts (Append expression span ∷ rest) = map suc (starts rest)
starts (_ ∷ rest) = starts rest

-- for each Finish, the number of Append commands before it
abbrev pub finishes : List BuildCommand → List ℕ
finishes [] = []
finishes (Finish ∷ rest) = 0 ∷ finishes rest
finishes (Append expression span ∷ rest) = map suc (finishes rest)
finishes (_ ∷ rest) = finishes rest

-- for each Start with its Finish, the number of Append commands before the one and before the other
abbrev pub lengths : List BuildCommand → List (ℕ × ℕ)
lengths commands = zip (starts commands) (finishes commands)

-- those pairs for which there is an Append between the Start and the Finish
abbrev pub emitted : List BuildCommand → List (ℕ × ℕ)
emitted commands = filter is_filled (lengths commands)

-- the handle is in one of the ranges
abbrev pub IsCovered : List (ℕ × ℕ) → ℕ → Type 0
IsCovered ranges handle = Any (λ range. (range.0 ≤ handle) × (handle < range.1)) ranges

-- the statement of each Push, and the statement that each Finish emits for its range, in the order of the commands
abbrev pub listed_with : List (Expression × Span) → List BuildCommand → List (ℕ × ℕ) → List (Statement × Span)
listed_with arena [] ranges = []
listed_with arena (Push statement span ∷ rest) ranges = (statement, span) ∷ listed_with arena rest ranges
listed_with arena (Finish ∷ rest) (range ∷ ranges) =
    option_to_list (emission arena range) ++ listed_with arena rest ranges
listed_with arena (_ ∷ rest) ranges = listed_with arena rest ranges

-- what the commands add to the block, in order: the statement and the span of each Push, and the emission of the range
-- of each Finish
abbrev pub listed : List BuildCommand → List (Statement × Span)
listed commands = listed_with (appended commands) commands (lengths commands)

-- ---- the errors of commands

abbrev pub runs_after : Bool → BuildCommand → Bool
runs_after runs Start = true
runs_after runs Finish = false
runs_after runs _ = runs

-- the emitter is running after these commands: the last Start or Finish among them is a Start
abbrev pub is_running : List BuildCommand → Bool
is_running = fold runs_after false

-- the command at this position is a Start while the emitter is running
abbrev pub StartsAgain : List BuildCommand → ℕ → Type 0
StartsAgain commands position =
    (slice_get commands position ≡ Some Start) × (is_running (take position commands) ≡ true)

-- the command at this position is a Finish while the emitter is not running
abbrev pub FinishesNothing : List BuildCommand → ℕ → Type 0
FinishesNothing commands position =
    (slice_get commands position ≡ Some Finish) × (is_running (take position commands) ≡ false)

-- no command before this position is a Start while the emitter is running, or a Finish while it is not
abbrev pub IsInTurn : List BuildCommand → ℕ → Type 0
IsInTurn commands end =
    (position : ℕ) → position < end → ¬ (StartsAgain commands position ⊎ FinishesNothing commands position)

-- the command at this position is an Append for which there is no handle left
abbrev pub AppendsTooMany : List BuildCommand → ℕ → Type 0
AppendsTooMany commands position =
    ((pair : Expression × Span) × (slice_get commands position ≡ Some (Append pair.0 pair.1)))
    × (length (appended (take position commands)) ≡ max_len)

-- the `BuildError` for the error of an append
abbrev pub refusal_of : ArenaError → BuildError
refusal_of no_handle = Full
refusal_of no_memory = Memory

-- building from these commands may fail with this error; `Memory` has no condition
abbrev pub Refused : List BuildCommand → BuildError → Type 0
Refused commands (AlreadyRunning position) = StartsAgain commands position × IsInTurn commands position
Refused commands (NotRunning position) = FinishesNothing commands position × IsInTurn commands position
Refused commands Full = (position : ℕ) × AppendsTooMany commands position × IsInTurn commands position
Refused commands Memory = ⊤
