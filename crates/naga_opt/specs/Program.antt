-- The ways in which the program ends.
use Rattle.std.specs.Prelude.{◌≡◌, ⊤, ℕ, zero, suc, List, [], Option, Result, Ok, Err, string_bytes}
use Rattle.std.specs.Io.KnownBytes.{Appends}
use Rattle.naga_look.specs.declared.shown.Shown.{Shown}
use Rattle.naga_opt.specs.Answer.{IsAnswer, MayFault}
use Rattle.naga_opt.specs.Input.{IsKnown, IsOutputFault, without_mark}
use Rattle.naga_opt.specs.Said.{IsSaid}
use Rattle.naga_opt.specs.Task.{Chosen, chosen_of}
use Rattle.naga_opt.specs.declared.program.Status.{Status}
use Rattle.naga_opt.specs.declared.program.Status.TheVariants as status
use Rattle.naga_opt.specs.declared.report.ProgramFault.{ProgramFault}
use Rattle.naga_opt.specs.declared.report.ProgramFault.TheVariants.{Arguments}
use Rattle.naga_opt.specs.declared.task.Command.{Command}
use Rattle.naga_opt.specs.declared.task.Command.TheVariants as command
use Rattle.naga_opt.specs.declared.usage.TheConstants.{HELP, VERSION}

-- the exit status: 1 if the program failed or a report has a fault, and 2 if the arguments are wrong
abbrev pub exit_number : Status → ℕ
exit_number status.Answered = 0
exit_number status.FoundFault = 1
exit_number status.Failed = 1
exit_number status.WrongArguments = 2

-- the status after an answer with this number of faults
abbrev pub status_of_answer : (faults : ℕ) → Status
status_of_answer zero = status.Answered
status_of_answer (suc others) = status.FoundFault

-- the status after an error
abbrev pub status_of_fault : ProgramFault → Status
status_of_fault (Arguments wrong) = status.WrongArguments
status_of_fault fault = status.Failed

-- the whole answer was written
abbrev pub IsAnswered : Status → Type 0
IsAnswered status.Answered = ⊤
IsAnswered status.FoundFault = ⊤
IsAnswered status.Failed = ⊥
IsAnswered status.WrongArguments = ⊥

-- The answer for these choices was written: it is the answer to a text, which is that of the input without a byte order
-- mark, if the input is known. This is to be said of the text.
pub record WritesAnswer (chosen : Chosen) (input old new : Option (List ℕ)) (ended : Status) (said : List ℕ) : Type 0 where
  pub bytes : List ℕ
  pub known : IsKnown input bytes
  pub shown : Shown
  pub answers : IsAnswer chosen (without_mark bytes) shown
  pub written : Appends old new (string_bytes shown.text)
  pub status : ended ≡ status_of_answer shown.faults
  pub told : IsSaid chosen (without_mark bytes) said

-- What the command is to write was written, and the program ends with this status. This is to be said: nothing of the help
-- and of the version.
abbrev pub Writes : Command → (input old new : Option (List ℕ)) → Status → (said : List ℕ) → Type 0
Writes command.Help input old new ended said = Appends old new HELP.now × (ended ≡ status.Answered) × (said ≡ [])
Writes command.Version input old new ended said = Appends old new VERSION.now × (ended ≡ status.Answered) × (said ≡ [])
Writes (command.Run task) input old new ended said = WritesAnswer (chosen_of task) input old new ended said

-- the same if there is a command
abbrev pub WritesGiven : Result Command ProgramFault → (input old new : Option (List ℕ)) → Status → (said : List ℕ) → Type 0
WritesGiven (Ok given) input old new ended said = Writes given input old new ended said
WritesGiven (Err reason) input old new ended said = ⊥

-- with this command and this input, the program may end with this error
abbrev pub MayEndWith : Command → Option (List ℕ) → ProgramFault → Type 0
MayEndWith command.Help input fault = IsOutputFault fault
MayEndWith command.Version input fault = IsOutputFault fault
MayEndWith (command.Run task) input fault = MayFault (chosen_of task) input fault

-- the same if there is a command; otherwise the error is the reason why there is none
abbrev pub MayEndGiven : Result Command ProgramFault → Option (List ℕ) → ProgramFault → Type 0
MayEndGiven (Ok given) input fault = MayEndWith given input fault
MayEndGiven (Err reason) input fault = fault ≡ reason
