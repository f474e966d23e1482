-- The answer to the text of a module, and the errors that an input may have.
use Rattle.std.specs.Prelude.{◌≡◌, ◌⊎◌, ⊤, ℕ, ◌-◌, List, [], ◌∷◌, ◌++◌, length, Option, Some, None, IfSome, IsUtf8, String, string_bytes}
use Rattle.naga_arena.specs.Location.{newline}
use Rattle.naga_explain.specs.Messages.{IsMessage}
use Rattle.naga_json_read.specs.declared.read_error.ReadError.{ReadError}
use Rattle.std.specs.declared.alloc.Global.{Global}
use Rattle.naga_look.specs.Transform.{IsAnswerAfter, MayFailAfter}
use Rattle.naga_look.specs.declared.shown.Shown.{Shown}
use Rattle.naga_look.specs.declared.shown.View.{View}
use Rattle.naga_look.specs.declared.transform_error.TransformError.{TransformError}
use Rattle.naga_look.specs.declared.transform_error.TransformError.TheVariants as error
use Rattle.naga_opt.specs.Input.{IsKnown, without_mark}
use Rattle.naga_opt.specs.Task.{Chosen, passes_of}
use Rattle.naga_opt.specs.declared.report.ProgramFault.{ProgramFault}
use Rattle.naga_opt.specs.declared.report.ProgramFault.TheVariants.{Arguments, NotUtf8, Input, Output, Unread, Unrestricted, Unwritten, Memory}

-- the answer with a newline at its end, if it is JSON
abbrev pub IsEnded : Option View → (made shown : Shown) → Type 0
IsEnded None made shown = (string_bytes shown.text ≡ string_bytes made.text ++ newline ∷ []) × (shown.faults ≡ made.faults)
IsEnded (Some view) made shown = shown ≡ made

-- this is the answer to the text for these choices
abbrev pub IsAnswer : Chosen → (text : List ℕ) → Shown → Type 0
IsAnswer chosen text shown =
    (made : Shown) × IsAnswerAfter (passes_of chosen) chosen.view text made × IsEnded chosen.view made shown

-- answering the text for these choices may have this error
abbrev pub MayHaveNoAnswer : Chosen → List ℕ → TransformError → Type 0
MayHaveNoAnswer chosen text error = MayFailAfter (passes_of chosen) chosen.view text error

-- the message is that of this error of a text behind a byte order mark, if the input has one
abbrev pub IsMessageOf : (bytes : List ℕ) → ReadError → (message : List ℕ) → Type 0
IsMessageOf bytes error message = IsMessage (without_mark bytes) (length bytes - length (without_mark bytes)) error message

-- The input may have this error for these choices. At any input, an allocation or a read may fail. Only an answer is
-- written. The message for a text that was not read, or for a module that was not restricted, is that of its error.
abbrev pub MayFault : Chosen → Option (List ℕ) → ProgramFault → Type 0
MayFault chosen input (Arguments wrong) = ⊥
MayFault chosen input NotUtf8 = IfSome input (λ bytes. ¬ IsUtf8 (without_mark bytes))
MayFault chosen input (Input error) = ⊤
MayFault chosen input (Output error) = (bytes : List ℕ) × IsKnown input bytes × ((shown : Shown) × IsAnswer chosen (without_mark bytes) shown)
MayFault chosen input (Unread message) =
    (bytes : List ℕ) × IsKnown input bytes
    × ((cause : ReadError) × MayHaveNoAnswer chosen (without_mark bytes) (error.Read cause)
    × IsMessageOf bytes cause (string_bytes message))
MayFault chosen input (Unrestricted message) =
    (bytes : List ℕ) × IsKnown input bytes × MayHaveNoAnswer chosen (without_mark bytes) (error.Restrict message)
MayFault chosen input (Unwritten cause) =
    (bytes : List ℕ) × IsKnown input bytes × MayHaveNoAnswer chosen (without_mark bytes) (error.Write cause)
MayFault chosen input Memory = ⊤

-- The program ends with this error if a text has no answer, where this number of bytes precedes it in the input: with
-- the message of the error if the text was not read or the module was not restricted. Or an allocation for the message
-- failed.
abbrev pub IsFaultOf : (text : List ℕ) → (skipped : ℕ) → TransformError → ProgramFault → Type 0
IsFaultOf text skipped error.Memory fault = fault ≡ Memory
IsFaultOf text skipped (error.Read cause) fault =
    (fault ≡ Memory) ⊎ ((message : String Global) × (fault ≡ Unread message) × IsMessage text skipped cause (string_bytes message))
IsFaultOf text skipped (error.Restrict message) fault = fault ≡ Unrestricted message
IsFaultOf text skipped (error.Write cause) fault = fault ≡ Unwritten cause
