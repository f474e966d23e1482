-- The error messages of the program.
use Rattle.std.specs.Prelude.{ℕ, List, ◌++◌, codes}
use Rattle.std.specs.Fmt.{decimal}
use Rattle.naga_notation.specs.declared.error.ShapeError.{ShapeError}
use Rattle.naga_notation.specs.declared.error.ShapeError.TheVariants.{BadText, TooDeep, TooLong, Memory}
use Rattle.naga_shape.specs.declared.line.ShapeFault.TheVariants.{Shape, NotUtf8, Input, Output}
use Rattle.naga_shape.specs.declared.report.ProgramFault.{ProgramFault}
use Rattle.naga_shape.specs.declared.report.ProgramFault.TheVariants.{UnexpectedArgument, Line}

-- the message of an error of closing a text
abbrev pub error_text : ShapeError → List ℕ
error_text (BadText at) = codes "bad text at byte " ++ decimal at
error_text (TooDeep at) = codes "too deep at byte " ++ decimal at
error_text TooLong = codes "too long"
error_text Memory = codes "out of memory"

-- the message of an error, without the name of the program
abbrev pub fault_text : ProgramFault → List ℕ
fault_text UnexpectedArgument = codes "unexpected argument"
fault_text (Line (Shape error)) = error_text error
fault_text (Line NotUtf8) = codes "not UTF-8"
fault_text (Line Input) = codes "input failed"
fault_text (Line Output) = codes "output failed"

-- the line that is printed for an error
abbrev pub fault_line : ProgramFault → List ℕ
fault_line fault = codes "naga_shape: " ++ (fault_text fault ++ codes "\n")
