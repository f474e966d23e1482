-- What the calls return and write.
use Rattle.std.specs.Prelude.{◌≡◌, ◌⊎◌, ℕ, ℤ, pos, List, [], length, Option, Some, None, Result, Ok, Err, String, string_bytes}
use Rattle.std.specs.Str.{IsUtf8}
use Rattle.std.specs.declared.alloc.Global.{Global}
use Rattle.naga_explain.specs.Messages.{IsMessage}
use Rattle.naga_json_read.specs.declared.read_error.ReadError.{ReadError}
use Rattle.naga_passes.specs.Names.{IsUnknown, Lists}
use Rattle.naga_passes.specs.declared.pass.Pass.{Pass}
use Rattle.naga_look.specs.Transform.{IsAnswerAfter, MayFailAfter}
use Rattle.naga_look.specs.declared.shown.Extent.TheVariants.{Short}
use Rattle.naga_look.specs.declared.shown.Format.TheVariants.{Lines}
use Rattle.naga_look.specs.declared.shown.Shown.{Shown}
use Rattle.naga_look.specs.declared.shown.View.{View}
use Rattle.naga_look.specs.declared.shown.View.TheVariants as view
use Rattle.naga_look.specs.declared.transform_error.TransformError.{TransformError}
use Rattle.naga_look.specs.declared.transform_error.TransformError.TheVariants as error
use Rattle.naga_capi.specs.Buffer.{written}
use Rattle.naga_capi.specs.Failure.{EndsWith, fault_of_read}
use Rattle.naga_capi.specs.declared.failure.Failure.{Failure}
use Rattle.naga_capi.specs.declared.failure.Failure.TheVariants.{UnknownPass, NotUtf8, Unread, Unrestricted, Unwritten, Memory}
use Rattle.naga_capi.specs.declared.given.Answer.{Answer}

-- Reading a list of passes may have this failure: the list is not UTF-8, a name in it is the first that is not that of a
-- pass, or an allocation failed.
abbrev pub MayFailToList : (names : List ℕ) → Failure → Type 0
MayFailToList names NotUtf8 = ¬ IsUtf8 names
MayFailToList names (UnknownPass name) = IsUtf8 names × IsUnknown names (string_bytes name)
MayFailToList names Memory = IsUtf8 names
MayFailToList names (Unread fault message) = ⊥
MayFailToList names (Unrestricted message) = ⊥
MayFailToList names (Unwritten error) = ⊥

-- Answering a text after passes may have this failure: the text is not UTF-8, or the passes and the view have no answer. The
-- message for a text that was not read, or for a module that was not restricted, is that of its error.
abbrev pub MayHaveNoAnswer : List Pass → Option View → (text : List ℕ) → Failure → Type 0
MayHaveNoAnswer passes view text NotUtf8 = ¬ IsUtf8 text
MayHaveNoAnswer passes view text (Unread fault message) =
    IsUtf8 text
    × ((cause : ReadError) × (fault ≡ fault_of_read cause) × MayFailAfter passes view text (error.Read cause)
    × IsMessage text 0 cause (string_bytes message))
MayHaveNoAnswer passes view text (Unrestricted message) = IsUtf8 text × MayFailAfter passes view text (error.Restrict message)
MayHaveNoAnswer passes view text (Unwritten cause) = IsUtf8 text × MayFailAfter passes view text (error.Write cause)
MayHaveNoAnswer passes view text Memory = IsUtf8 text
MayHaveNoAnswer passes view text (UnknownPass name) = ⊥

-- The failure of a text that has no answer for this reason: with the message of the error if the text was not read or
-- the module was not restricted. Or an allocation for the message failed.
abbrev pub IsFailureOf : (text : List ℕ) → TransformError → Failure → Type 0
IsFailureOf text error.Memory failure = failure ≡ Memory
IsFailureOf text (error.Read cause) failure =
    (failure ≡ Memory)
    ⊎ ((message : String Global) × (failure ≡ Unread (fault_of_read cause) message) × IsMessage text 0 cause (string_bytes message))
IsFailureOf text (error.Restrict message) failure = failure ≡ Unrestricted message
IsFailureOf text (error.Write cause) failure = failure ≡ Unwritten cause

-- this is the answer to a text that is UTF-8
abbrev pub IsAnswer : List Pass → Option View → (text : List ℕ) → Shown → Type 0
IsAnswer passes view text shown = IsUtf8 text × IsAnswerAfter passes view text shown

-- the outcome of answering a text after passes
abbrev pub IsOutcome : List Pass → Option View → (text : List ℕ) → Result Shown Failure → Type 0
IsOutcome passes view text (Ok shown) = IsAnswer passes view text shown
IsOutcome passes view text (Err failure) = MayHaveNoAnswer passes view text failure

-- the text alone is that of an answer without faults
abbrev pub without_faults : String Global → Shown
without_faults text = record { text = text; faults = 0 }

-- The outcome of running the passes with these names on a text: the JSON of the new module, or a failure. The names are
-- read first.
abbrev pub Runs : (text names : List ℕ) → Result (String Global) Failure → Type 0
Runs text names (Ok run) =
    (passes : List Pass) × Lists passes names × IsAnswer passes None text (without_faults run)
Runs text names (Err failure) =
    MayFailToList names failure ⊎ ((passes : List Pass) × Lists passes names × MayHaveNoAnswer passes None text failure)

-- the outcome of showing a text as readable text
abbrev pub Shows : (text : List ℕ) → Result (String Global) Failure → Type 0
Shows text (Ok shown) = IsAnswer [] (Some view.Text) text (without_faults shown)
Shows text (Err failure) = MayHaveNoAnswer [] (Some view.Text) text failure

-- the outcome of checking the module of a text: the report, and the number of faults
abbrev pub Checks : (text : List ℕ) → Result Shown Failure → Type 0
Checks text checked = IsOutcome [] (Some (view.Report Short Lines)) text checked

-- A call with this outcome returned the number. It wrote the text into the buffer for it if it fits, or the message into
-- the other buffer, and nothing else.
abbrev pub Answers : Result (String Global) Failure → (answer : ℤ) → (old_out out old_message message : List ℕ) → Type 0
Answers (Ok text) answer old_out out old_message message =
    (answer ≡ pos (length (string_bytes text))) × (out ≡ written (string_bytes text) old_out) × (message ≡ old_message)
Answers (Err failure) answer old_out out old_message message =
    (out ≡ old_out) × EndsWith failure answer old_message message

-- A call with this outcome returned the number. It gave the text to the caller, or wrote the message into the buffer, and
-- nothing else.
abbrev pub Gives : Result (String Global) Failure → (answer : ℤ) → (old_given given : Answer) → (old_message message : List ℕ) → Type 0
Gives (Ok text) answer old_given given old_message message =
    (answer ≡ pos (length (string_bytes text))) × (given.text.now ≡ string_bytes text) × (message ≡ old_message)
Gives (Err failure) answer old_given given old_message message =
    (given ≡ old_given) × EndsWith failure answer old_message message

-- A check with this outcome returned the number. It wrote the report if it fits, and the number of faults, or the message,
-- and nothing else.
abbrev pub AnswersCheck : Result Shown Failure → (answer : ℤ) → (old_out out old_message message : List ℕ) → (old_faults faults : ℕ) → Type 0
AnswersCheck (Ok shown) answer old_out out old_message message old_faults faults =
    (answer ≡ pos (length (string_bytes shown.text))) × (out ≡ written (string_bytes shown.text) old_out)
    × (message ≡ old_message) × (faults ≡ shown.faults)
AnswersCheck (Err failure) answer old_out out old_message message old_faults faults =
    (out ≡ old_out) × (faults ≡ old_faults) × EndsWith failure answer old_message message
