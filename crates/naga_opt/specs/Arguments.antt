-- The command-line arguments of the program, and what they select.
use Rattle.std.specs.Prelude.{◌≡◌, ◌≢◌, ◌⊎◌, ◌↔◌, ⊤, ℕ, ◌==◌, Bool, true, false, not, List, [], ◌∷◌, ◌++◌, drop, map, Option, Some, None, Result, Ok, Err, codes, String, string_bytes, Vec}
use Rattle.std.specs.IoError.{error_kind}
use Rattle.std.specs.Vec.Iter.{into_iter_items}
use Rattle.std.specs.declared.alloc.Global.{Global}
use Rattle.std.specs.declared.io.Error.{Error}
use Rattle.std.specs.declared.io.ErrorKind.{ErrorKind}
use Rattle.std.specs.declared.io.ErrorKind.TheVariants.{OutOfMemory}
use Rattle.std.specs.declared.vec.IntoIter.{IntoIter}
use Rattle.naga_passes.specs.Names.{IsUnknown, Lists}
use Rattle.naga_passes.specs.declared.pass.Pass.{Pass}
use Rattle.naga_look.specs.declared.shown.View.{View}
use Rattle.naga_look.specs.declared.shown.Extent.{Extent}
use Rattle.naga_look.specs.declared.shown.Extent.TheVariants.{Full, Short}
use Rattle.naga_look.specs.declared.shown.Format.{Format}
use Rattle.naga_look.specs.declared.shown.Format.TheVariants.{Lines, Json}
use Rattle.naga_look.specs.declared.shown.View.TheVariants as view
use Rattle.naga_opt.specs.Task.{Chosen, chosen_of, listed, nothing_chosen, old}
use Rattle.naga_opt.specs.declared.flag.Flag.{Flag}
use Rattle.naga_opt.specs.declared.flag.Flag.TheVariants as flag
use Rattle.naga_opt.specs.declared.report.ArgumentFault.{ArgumentFault}
use Rattle.naga_opt.specs.declared.report.ArgumentFault.TheVariants.{Exclude, NoCheck, NotUtf8, NoValue, Twice, Unexpected, UnknownPass}
use Rattle.naga_opt.specs.declared.report.ProgramFault.{ProgramFault}
use Rattle.naga_opt.specs.declared.report.ProgramFault.TheVariants.{Arguments, Memory}
use Rattle.naga_opt.specs.declared.task.Command.{Command}
use Rattle.naga_opt.specs.declared.task.Command.TheVariants as command

-- ---- the arguments with which the program was started

-- these are the arguments after the program's name, which is the first of all arguments with which it was started
abbrev pub GivesArguments : Result (IntoIter (String Global) Global) Error → List (String Global) → Type 0
GivesArguments (Ok all) arguments = arguments ≡ drop 1 (into_iter_items all)
GivesArguments (Err error) arguments = ⊥

-- the error if the arguments of the program could not be obtained: out of memory, or an argument that is not UTF-8
abbrev pub kind_fault : ErrorKind → ProgramFault
kind_fault OutOfMemory = Memory
kind_fault _ = Arguments NotUtf8

-- the error if the arguments after the program's name could not be obtained: out of memory, if all arguments could be
-- obtained
abbrev pub arguments_fault : Result (IntoIter (String Global) Global) Error → ProgramFault
arguments_fault (Ok all) = Memory
arguments_fault (Err error) = kind_fault (error_kind error)

-- the bytes of each argument
abbrev pub texts_of : List (String Global) → List (List ℕ)
texts_of = map string_bytes

-- ---- options

-- how an option is written
abbrev pub flag_text : Flag → List ℕ
flag_text flag.Passes = codes "--passes"
flag_text flag.Old = codes "--old"
flag_text flag.Output = codes "--output"
flag_text flag.ShortOutput = codes "-o"
flag_text flag.Check = codes "--check"
flag_text flag.All = codes "--all"
flag_text flag.Json = codes "--json"
flag_text flag.Text = codes "--text"
flag_text flag.Dot = codes "--dot"
flag_text flag.Stats = codes "--stats"

-- whether the option has a value
abbrev pub has_value : Flag → Bool
has_value flag.Passes = true
has_value flag.Old = false
has_value flag.Output = true
has_value flag.ShortOutput = true
has_value flag.Check = false
has_value flag.All = false
has_value flag.Json = false
has_value flag.Text = false
has_value flag.Dot = false
has_value flag.Stats = false

-- the option is `--output` or `-o`
abbrev pub IsOutput : Flag → Type 0
IsOutput f = (f ≡ flag.Output) ⊎ (f ≡ flag.ShortOutput)

-- the option chooses the passes
abbrev pub IsOfPasses : Flag → Type 0
IsOfPasses f = (f ≡ flag.Passes) ⊎ (f ≡ flag.Old)

-- the option that shows this of a module
abbrev pub flag_of : View → Flag
flag_of (view.Report extent format) = flag.Check
flag_of view.Text = flag.Text
flag_of view.Dot = flag.Dot

-- the option alone shows this: of reports, the short one in lines
abbrev pub IsFirst : View → Type 0
IsFirst (view.Report Short Lines) = ⊤
IsFirst (view.Report extent format) = ⊥
IsFirst shown = ⊤

-- the option changes a chosen report
abbrev pub IsOfReport : Flag → Type 0
IsOfReport f = (f ≡ flag.All) ⊎ (f ≡ flag.Json)

-- the option chooses what is shown
abbrev pub IsOfView : Flag → Type 0
IsOfView f = (shown : View) × (f ≡ flag_of shown)

-- the argument is the option and its value, with `=` between them, as in `--output=FILE`
abbrev pub IsJoined : Flag → (argument value : List ℕ) → Type 0
IsJoined flag.Passes argument value = argument ≡ codes "--passes=" ++ value
IsJoined flag.Output argument value = argument ≡ codes "--output=" ++ value
IsJoined f argument value = ⊥

-- The arguments begin with this option, and with this value if the option has one: in the same argument or in the next
-- one. The rest of the arguments follows.
pub data Takes : Flag → Option (List ℕ) → (arguments rest : List (List ℕ)) → Type 0 where
  alone : {f : Flag} {argument : List ℕ} {rest : List (List ℕ)}
      → argument ≡ flag_text f → has_value f ≡ false → Takes f None (argument ∷ rest) rest
  apart : {f : Flag} {argument value : List ℕ} {rest : List (List ℕ)}
      → argument ≡ flag_text f → has_value f ≡ true → Takes f (Some value) (argument ∷ value ∷ rest) rest
  joined : {f : Flag} {argument value : List ℕ} {rest : List (List ℕ)}
      → IsJoined f argument value → Takes f (Some value) (argument ∷ rest) rest

-- The option with this value makes the choices `after` of the choices `before`. Passes are chosen once, by `--passes` or
-- by `--old`, and so are what is shown, the file to write, and whether it is said what each pass did. `--all` makes a chosen
-- report whole, and `--json` makes JSON of it.
abbrev pub Sets : Flag → Option (List ℕ) → (before after : Chosen) → Type 0
Sets flag.Passes (Some list) before after =
    (before.passes ≡ None) × ((passes : List Pass) × Lists passes list × (after ≡ record before { passes = Some (listed passes) }))
Sets flag.Old None before after = (before.passes ≡ None) × (after ≡ record before { passes = Some old })
Sets flag.Output (Some name) before after = (before.output ≡ None) × (after ≡ record before { output = Some name })
Sets flag.ShortOutput (Some name) before after = (before.output ≡ None) × (after ≡ record before { output = Some name })
Sets flag.Check None before after = (before.view ≡ None) × (after ≡ record before { view = Some (view.Report Short Lines) })
Sets flag.All None before after =
    (format : Format) × (before.view ≡ Some (view.Report Short format))
    × (after ≡ record before { view = Some (view.Report Full format) })
Sets flag.Json None before after =
    (extent : Extent) × (before.view ≡ Some (view.Report extent Lines))
    × (after ≡ record before { view = Some (view.Report extent Json) })
Sets flag.Text None before after = (before.view ≡ None) × (after ≡ record before { view = Some view.Text })
Sets flag.Dot None before after = (before.view ≡ None) × (after ≡ record before { view = Some view.Dot })
Sets flag.Stats None before after = (before.stats ≡ false) × (after ≡ record before { stats = true })
Sets f value before after = ⊥

-- the argument is the name of a file: it does not begin with a hyphen, or is a single hyphen, which names standard
-- input
abbrev pub is_name : List ℕ → Bool
is_name [] = true
is_name (first ∷ []) = true
is_name (first ∷ second ∷ rest) = not (first == 45)

-- the argument `--`, after which each argument is the name of a file
abbrev pub end_of_options : List ℕ
end_of_options = codes "--"

-- the argument selects the help
abbrev pub IsHelp : List ℕ → Type 0
IsHelp argument = (argument ≡ codes "--help") ⊎ (argument ≡ codes "-h")

-- the argument selects the version
abbrev pub IsVersion : List ℕ → Type 0
IsVersion argument = (argument ≡ codes "--version") ⊎ (argument ≡ codes "-V")

-- there is no name, or it is that of the file to read, and none was chosen before
abbrev pub NamesInput : (names : List (List ℕ)) → (before after : Chosen) → Type 0
NamesInput [] before after = after ≡ before
NamesInput (name ∷ []) before after = (before.input ≡ None) × (after ≡ record before { input = Some name })
NamesInput (name ∷ another ∷ names) before after = ⊥

-- what arguments mean
pub data Meaning : Type 0 where
  help : Meaning
  version : Meaning
  choice : Chosen → Meaning

-- After options that made the choices `before`, the rest of the arguments means this. The arguments are read from left
-- to right. What comes after `--help` or `--version` is not read.
pub data Means : (before : Chosen) → (arguments : List (List ℕ)) → Meaning → Type 0 where
  nothing_more : {before : Chosen} → Means before [] (choice before)
  by_option : {f : Flag} {value : Option (List ℕ)} {before after : Chosen} {arguments rest : List (List ℕ)} {meant : Meaning}
      → Takes f value arguments rest → Sets f value before after → Means after rest meant → Means before arguments meant
  by_name : {before : Chosen} {argument : List ℕ} {rest : List (List ℕ)} {meant : Meaning}
      → is_name argument ≡ true → before.input ≡ None
      → Means (record before { input = Some argument }) rest meant
      → Means before (argument ∷ rest) meant
  by_end : {before after : Chosen} {argument : List ℕ} {names : List (List ℕ)}
      → argument ≡ end_of_options → NamesInput names before after → Means before (argument ∷ names) (choice after)
  by_help : {before : Chosen} {argument : List ℕ} {rest : List (List ℕ)} → IsHelp argument → Means before (argument ∷ rest) help
  by_version : {before : Chosen} {argument : List ℕ} {rest : List (List ℕ)} → IsVersion argument → Means before (argument ∷ rest) version

-- what a command means
abbrev pub meaning_of : Command → Meaning
meaning_of command.Help = help
meaning_of command.Version = version
meaning_of (command.Run task) = choice (chosen_of task)

-- the arguments select this command
abbrev pub Selects : List (List ℕ) → Command → Type 0
Selects arguments selected = Means nothing_chosen arguments (meaning_of selected)

-- after these choices, the arguments mean the same as the rest of them after the new choices
abbrev pub MeansTheSame : (before : Chosen) → (arguments : List (List ℕ)) → (now : Chosen) → (rest : List (List ℕ)) → Type 0
MeansTheSame before arguments now rest = (meant : Meaning) → Means before arguments meant ↔ Means now rest meant

-- ---- wrong arguments

-- this option made one of the choices. `--output` and `-o` are the same option.
abbrev pub Made : Flag → Chosen → Type 0
Made flag.Passes chosen = (passes : List Pass) × (chosen.passes ≡ Some (listed passes))
Made flag.Old chosen = chosen.passes ≡ Some old
Made flag.Output chosen = chosen.output ≢ None
Made flag.ShortOutput chosen = chosen.output ≢ None
Made flag.Check chosen = (extent : Extent) × (format : Format) × (chosen.view ≡ Some (view.Report extent format))
Made flag.All chosen = (format : Format) × (chosen.view ≡ Some (view.Report Full format))
Made flag.Json chosen = (extent : Extent) × (chosen.view ≡ Some (view.Report extent Json))
Made flag.Text chosen = chosen.view ≡ Some view.Text
Made flag.Dot chosen = chosen.view ≡ Some view.Dot
Made flag.Stats chosen = chosen.stats ≡ true

-- no report is chosen
abbrev pub HasNoReport : Chosen → Type 0
HasNoReport chosen = (extent : Extent) (format : Format) → chosen.view ≢ Some (view.Report extent format)

-- the options choose the same: the passes, or what is shown
abbrev pub ChooseSame : Flag → Flag → Type 0
ChooseSame first second = (IsOfPasses first × IsOfPasses second) ⊎ (IsOfView first × IsOfView second)

-- the options can't be given together: they are different, and choose the same
abbrev pub Excludes : Flag → Flag → Type 0
Excludes first second = ChooseSame first second × (first ≢ second)

-- After these choices, the option with this value is wrong: it was given before, or one was that excludes it, or a name
-- in the list is not that of a pass, or no report is chosen that it could change.
abbrev pub IsMisused : Flag → Option (List ℕ) → (before : Chosen) → ArgumentFault → Type 0
IsMisused f value before (Twice named) = (named ≡ f) × Made f before
IsMisused f value before (Exclude first second) = (second ≡ f) × Excludes first f × Made first before
IsMisused flag.Passes (Some list) before (UnknownPass name) = (before.passes ≡ None) × IsUnknown list (string_bytes name)
IsMisused f value before (NoCheck named) = (named ≡ f) × IsOfReport f × HasNoReport before
IsMisused f value before wrong = ⊥

-- the option with this value may have this error: an allocation failed, or the option is wrong
abbrev pub MayFailToSet : Flag → Option (List ℕ) → (before : Chosen) → ProgramFault → Type 0
MayFailToSet f value before Memory = ⊤
MayFailToSet f value before (Arguments wrong) = IsMisused f value before wrong
MayFailToSet f value before fault = ⊥

-- If the argument comes after `fine`, the arguments are no option, and mean nothing, whatever follows. Without it,
-- they mean something.
pub record IsUnexpected (before : Chosen) (fine : List (List ℕ)) (argument : List ℕ) : Type 0 where
  pub meaning : Meaning
  pub means : Means before fine meaning
  pub no_option : (f : Flag) (value : Option (List ℕ)) (others rest : List (List ℕ)) → ¬ Takes f value (fine ++ argument ∷ others) rest
  pub nothing : (others : List (List ℕ)) (meant : Meaning) → ¬ Means before (fine ++ argument ∷ others) meant

-- The arguments mean nothing: one of them can't be where it is, or the last one is an option without its value, or the
-- option at their front is wrong after these choices.
abbrev pub IsWrong : (before : Chosen) → (arguments : List (List ℕ)) → ArgumentFault → Type 0
IsWrong before arguments NotUtf8 = ⊥
IsWrong before arguments (Unexpected named) =
    (fine rest : List (List ℕ)) × (arguments ≡ fine ++ string_bytes named ∷ rest) × IsUnexpected before fine (string_bytes named)
IsWrong before arguments (NoValue f) = (arguments ≡ flag_text f ∷ []) × (has_value f ≡ true)
IsWrong before arguments wrong =
    (f : Flag) × (value : Option (List ℕ)) × (rest : List (List ℕ)) × Takes f value arguments rest × IsMisused f value before wrong

-- after these choices, the arguments may have this error: an allocation failed, or they mean nothing for this reason
abbrev pub MayFailToChoose : (before : Chosen) → (arguments : List (List ℕ)) → ProgramFault → Type 0
MayFailToChoose before arguments Memory = ⊤
MayFailToChoose before arguments (Arguments wrong) = IsWrong before arguments wrong × ((meant : Meaning) → ¬ Means before arguments meant)
MayFailToChoose before arguments fault = ⊥

-- this error names the text, or an allocation failed
abbrev pub NamesFault : (String Global → ArgumentFault) → List ℕ → ProgramFault → Type 0
NamesFault fault_of text fault =
    (fault ≡ Memory) ⊎ ((named : String Global) × (fault ≡ Arguments (fault_of named)) × (string_bytes named ≡ text))

-- The arguments may have this error: an allocation failed, or after some of them, what is left has it. Then they select
-- no command.
abbrev pub MayFailToSelect : List (List ℕ) → ProgramFault → Type 0
MayFailToSelect arguments Memory = ⊤
MayFailToSelect arguments (Arguments wrong) =
    (before : Chosen) × (left : List (List ℕ)) × MeansTheSame nothing_chosen arguments before left × IsWrong before left wrong
    × ((selected : Command) → ¬ Selects arguments selected)
MayFailToSelect arguments fault = ⊥

-- the arguments could be obtained, and they select this command
abbrev pub GivesCommand : Result (Vec (String Global) Global) ProgramFault → Command → Type 0
GivesCommand (Ok arguments) selected = Selects (texts_of arguments.items) selected
GivesCommand (Err fault) selected = ⊥

-- there is no command for this reason: the one for which the arguments could not be obtained, or an error of theirs
abbrev pub GivesNoCommand : Result (Vec (String Global) Global) ProgramFault → ProgramFault → Type 0
GivesNoCommand (Ok arguments) fault = MayFailToSelect (texts_of arguments.items) fault
GivesNoCommand (Err reason) fault = fault ≡ reason
