-- The error messages of the program.
use Rattle.std.specs.Prelude.{◌≡◌, ◌+◌, ℕ, Bool, true, false, List, [], ◌∷◌, ◌++◌, codes, Option, Result, Ok, string_bytes}
use Rattle.std.specs.Io.KnownBytes.{Appends}
use Rattle.std.specs.IoError.{error_kind}
use Rattle.std.specs.declared.io.ErrorKind.{ErrorKind}
use Rattle.std.specs.declared.io.ErrorKind.TheVariants.{BrokenPipe}
use Rattle.naga_passes.specs.Names.{unknown_text}
use Rattle.naga_json_write.specs.WriteError.{write_error_text}
use Rattle.naga_text.specs.Escapes.{in_quotes}
use Rattle.naga_opt.specs.Arguments.{flag_text}
use Rattle.naga_opt.specs.Task.{bytes_of, stream_name}
use Rattle.naga_opt.specs.declared.usage.TheConstants.{USAGE}
use Rattle.naga_opt.specs.declared.line.Part.{Part}
use Rattle.naga_opt.specs.declared.line.Part.TheVariants as part
use Rattle.naga_opt.specs.declared.report.ArgumentFault.{ArgumentFault}
use Rattle.naga_opt.specs.declared.report.ArgumentFault.TheVariants as wrong
use Rattle.naga_opt.specs.declared.report.ProgramFault.{ProgramFault}
use Rattle.naga_opt.specs.declared.report.ProgramFault.TheVariants.{Arguments, NotUtf8, Input, Output, Unread, Unrestricted, Unwritten, Memory}
use Rattle.naga_opt.specs.declared.task.Command.{Command}
use Rattle.naga_opt.specs.declared.task.Command.TheVariants as command

-- the line after the name of the program
abbrev pub named_line : List ℕ → List ℕ
named_line text = codes "naga_opt: " ++ (text ++ codes "\n")

-- one more call failed if something was not said, and otherwise none did
abbrev pub CountsUnsaid : (is_said : Bool) → (old new : ℕ) → Type 0
CountsUnsaid true old new = new ≡ old
CountsUnsaid false old new = new ≡ old + 1

-- how a part of a line is written: a name is escaped, and in quotes
abbrev pub part_text : Part → List ℕ
part_text (part.Plain text) = text.now
part_text (part.Quoted name) = in_quotes name.now

-- parts one after another, and a newline
abbrev pub parts_line : List Part → List ℕ
parts_line [] = codes "\n"
parts_line (part ∷ parts) = part_text part ++ parts_line parts

-- the parts were written one after another as a line, after the name of the program
abbrev pub PrintsParts : (parts : List Part) → (old new : Option (List ℕ)) → Type 0
PrintsParts parts old new = Appends old new (codes "naga_opt: " ++ parts_line parts)

-- the line was written, after the name of the program
abbrev pub PrintsLine : (text : List ℕ) → (old new : Option (List ℕ)) → Type 0
PrintsLine text old new = Appends old new (named_line text)

-- what is wrong with the arguments; an argument and the name of a pass are in quotes
abbrev pub wrong_text : ArgumentFault → List ℕ
wrong_text wrong.NotUtf8 = codes "unexpected argument"
wrong_text (wrong.Unexpected named) = codes "unexpected argument: " ++ in_quotes (string_bytes named)
wrong_text (wrong.NoValue f) = codes "no value for " ++ flag_text f
wrong_text (wrong.Twice f) = codes "option given twice: " ++ flag_text f
wrong_text (wrong.Exclude first second) = flag_text first ++ (codes " and " ++ (flag_text second ++ codes " exclude each other"))
wrong_text (wrong.NoCheck f) = flag_text f ++ codes " must follow --check"
wrong_text (wrong.UnknownPass named) = unknown_text (in_quotes (string_bytes named))

-- what a command reads: the name of the file in quotes, or that of the stream
abbrev pub input_name_of : Result Command ProgramFault → List ℕ
input_name_of (Ok (command.Run task)) = stream_name (codes "standard input") (bytes_of task.input)
input_name_of given = codes "standard input"

-- what a command writes: the name of the file in quotes, or that of the stream
abbrev pub output_name_of : Result Command ProgramFault → List ℕ
output_name_of (Ok (command.Run task)) = stream_name (codes "standard output") (bytes_of task.output)
output_name_of given = codes "standard output"

-- the message for a failed call on the file or the stream of this name was written, with a reason: what the system says
abbrev pub PrintsFailure : (what name : List ℕ) → (old new : Option (List ℕ)) → Type 0
PrintsFailure what name old new = (reason : List ℕ) × PrintsLine (what ++ (name ++ (codes ": " ++ reason))) old new

-- the message for a failed write was written; there is none if the reader was closed
abbrev pub PrintsOutputFailure : ErrorKind → (name : List ℕ) → (old new : Option (List ℕ)) → Type 0
PrintsOutputFailure BrokenPipe name old new = new ≡ old
PrintsOutputFailure kind name old new = PrintsFailure (codes "cannot write ") name old new

-- the message for wrong arguments was written: a line, and another one that says how the program is used
abbrev pub PrintsArgumentFault : ArgumentFault → (old new : Option (List ℕ)) → Type 0
PrintsArgumentFault wrong old new = PrintsLine (wrong_text wrong ++ (codes "\n" ++ USAGE.now)) old new

-- the message of the error was written for the command
abbrev pub PrintsFault : Result Command ProgramFault → ProgramFault → (old new : Option (List ℕ)) → Type 0
PrintsFault given (Arguments wrong) old new = PrintsArgumentFault wrong old new
PrintsFault given NotUtf8 old new = PrintsLine (codes "not UTF-8") old new
PrintsFault given (Input error) old new = PrintsFailure (codes "cannot read ") (input_name_of given) old new
PrintsFault given (Output error) old new = PrintsOutputFailure (error_kind error) (output_name_of given) old new
PrintsFault given (Unread message) old new = PrintsLine (string_bytes message) old new
PrintsFault given (Unrestricted message) old new = PrintsLine (string_bytes message) old new
PrintsFault given (Unwritten error) old new = PrintsLine (write_error_text error) old new
PrintsFault given Memory old new = PrintsLine (codes "out of memory") old new
