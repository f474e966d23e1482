-- The ways in which the program ends.
use Rattle.std.specs.Prelude.{◌≡◌, ℕ, Bool, true, false, List, Option, Result, Ok, Err, IfSome, String, Vec}
use Rattle.std.specs.declared.alloc.Global.{Global}
use Rattle.std.specs.declared.io.Error.{Error}
use Rattle.naga_proc.specs.declared.terminator.rule.Rule.{Rule}
use Rattle.naga_shape.specs.Arguments.{Selects}
use Rattle.naga_shape.specs.Faults.{MayFault}
use Rattle.naga_shape.specs.Lines.{line_of}
use Rattle.naga_shape.specs.declared.report.ProgramFault.{ProgramFault}
use Rattle.naga_shape.specs.declared.report.ProgramFault.TheVariants.{UnexpectedArgument, Line}

-- With these arguments and this input, the program may end with this error. If the arguments could not be obtained, it
-- is the reason.
abbrev pub MayEndWith : Result (Vec (String Global) Global) ProgramFault → Option (List ℕ) → ProgramFault → Type 0
MayEndWith (Err reason) input fault = fault ≡ reason
MayEndWith (Ok arguments) input UnexpectedArgument = (rule : Rule) → ¬ Selects arguments.items rule
MayEndWith (Ok arguments) input (Line fault) =
    (rule : Rule) × Selects arguments.items rule × IfSome input (λ bytes. MayFault (line_of bytes) fault)

-- the exit status for the result of `run`: 0 if the answer was written, and 1 otherwise
abbrev pub status_after : Result Bool Error → ℕ
status_after (Ok true) = 0
status_after (Ok false) = 1
status_after (Err error) = 1
