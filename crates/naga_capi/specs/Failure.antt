-- The reasons why a call has no answer, their codes and their messages.
use Rattle.std.specs.Prelude.{◌≡◌, ◌⊎◌, ℕ, ℤ, List, codes, string_bytes}
use Rattle.naga_json_read.specs.declared.read_error.ReadError.{ReadError}
use Rattle.naga_json_read.specs.declared.read_error.ReadError.TheVariants as read
use Rattle.naga_json_write.specs.WriteError.{write_error_text}
use Rattle.naga_passes.specs.Names.{unknown_text}
use Rattle.naga_text.specs.Escapes.{in_quotes}
use Rattle.naga_capi.specs.Buffer.{WritesCut}
use Rattle.naga_capi.specs.Fault.{code_of}
use Rattle.naga_capi.specs.declared.failure.Failure.{Failure}
use Rattle.naga_capi.specs.declared.failure.Failure.TheVariants.{UnknownPass, NotUtf8, Unread, Unrestricted, Unwritten, Memory}
use Rattle.naga_capi.specs.declared.fault.Fault.{Fault}
use Rattle.naga_capi.specs.declared.fault.Fault.TheVariants as fault

-- the fault of an error of reading a text
abbrev pub fault_of_read : ReadError → Fault
fault_of_read read.Memory = fault.OutOfMemory
fault_of_read (read.Text offset) = fault.NotJson
fault_of_read (read.Value cause) = fault.NotAModule
fault_of_read (read.Handle invalid) = fault.InvalidHandle

-- the fault of a failure
abbrev pub fault_of : Failure → Fault
fault_of (UnknownPass name) = fault.UnknownPass
fault_of NotUtf8 = fault.NotUtf8
fault_of (Unread fault message) = fault
fault_of (Unrestricted message) = fault.NotRestricted
fault_of (Unwritten error) = fault.NoJson
fault_of Memory = fault.OutOfMemory

-- the message if an allocation failed
abbrev pub out_of_memory : List ℕ
out_of_memory = codes "out of memory"

-- this is the message of the failure
abbrev pub HasMessage : Failure → (message : List ℕ) → Type 0
HasMessage (UnknownPass name) message = message ≡ unknown_text (in_quotes (string_bytes name))
HasMessage NotUtf8 message = message ≡ codes "not UTF-8"
HasMessage (Unread fault shown) message = message ≡ string_bytes shown
HasMessage (Unrestricted shown) message = message ≡ string_bytes shown
HasMessage (Unwritten error) message = message ≡ write_error_text error
HasMessage Memory message = message ≡ out_of_memory

-- The call returns the code of the failure, and its message is written into the buffer. Or an allocation for the message
-- fails, and both are those of this failure.
abbrev pub EndsWith : Failure → (answer : ℤ) → (old new : List ℕ) → Type 0
EndsWith failure answer old new =
    (message : List ℕ) × WritesCut message old new
    × ((HasMessage failure message × (answer ≡ code_of (fault_of failure)))
    ⊎ ((message ≡ out_of_memory) × (answer ≡ code_of fault.OutOfMemory)))
