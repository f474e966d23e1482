-- The command-line arguments of the program, and the rule that they select.
use Rattle.std.specs.Prelude.{◌≡◌, List, [], ◌∷◌, drop, Result, Ok, Err, codes, String, string_bytes, Vec}
use Rattle.std.specs.IoError.{error_kind}
use Rattle.std.specs.Vec.Iter.{into_iter_items}
use Rattle.std.specs.declared.alloc.Global.{Global}
use Rattle.std.specs.declared.io.Error.{Error}
use Rattle.std.specs.declared.io.ErrorKind.{ErrorKind}
use Rattle.std.specs.declared.io.ErrorKind.TheVariants.{OutOfMemory}
use Rattle.std.specs.declared.vec.IntoIter.{IntoIter}
use Rattle.naga_notation.specs.declared.error.ShapeError.TheVariants.{Memory}
use Rattle.naga_proc.specs.declared.terminator.rule.Rule.{Rule}
use Rattle.naga_proc.specs.declared.terminator.rule.Rule.TheVariants.{New, Old}
use Rattle.naga_shape.specs.declared.line.ShapeFault.TheVariants.{Shape}
use Rattle.naga_shape.specs.declared.report.ProgramFault.{ProgramFault}
use Rattle.naga_shape.specs.declared.report.ProgramFault.TheVariants.{UnexpectedArgument, Line}

-- these are the arguments after the program's name, which is the first of all arguments with which it was started
abbrev pub GivesArguments : Result (IntoIter (String Global) Global) Error → List (String Global) → Type 0
GivesArguments (Ok all) arguments = arguments ≡ drop 1 (into_iter_items all)
GivesArguments (Err error) arguments = ⊥

-- the error if the arguments of the program could not be obtained: out of memory, or an argument that is not UTF-8 and
-- so not expected
abbrev pub kind_fault : ErrorKind → ProgramFault
kind_fault OutOfMemory = Line (Shape Memory)
kind_fault _ = UnexpectedArgument

-- the error if the arguments after the program's name could not be obtained: out of memory, if all arguments could be
-- obtained
abbrev pub arguments_fault : Result (IntoIter (String Global) Global) Error → ProgramFault
arguments_fault (Ok all) = Line (Shape Memory)
arguments_fault (Err error) = kind_fault (error_kind error)

-- no arguments select the new rule, and the single argument `--old` selects the old one
pub data Selects : List (String Global) → Rule → Type 0 where
  by_default : Selects [] New
  by_argument : {argument : String Global} → string_bytes argument ≡ codes "--old" → Selects (argument ∷ []) Old

-- the arguments could be obtained, and they select this rule
abbrev pub GivesRule : Result (Vec (String Global) Global) ProgramFault → Rule → Type 0
GivesRule (Ok arguments) rule = Selects arguments.items rule
GivesRule (Err fault) rule = ⊥
