-- The bytes of the input.
use Rattle.std.specs.Prelude.{◌≡◌, ⊤, ℕ, ◌<◌, nat_eq, List, [], ◌∷◌, Bool, true, false, if◌then◌else◌, drop, length, take, Option, IfSome, Result, Ok, Err}
use Rattle.std.specs.Io.KnownBytes.{Consumes, IsAtEnd}
use Rattle.std.specs.Cmp.Lexicographic.{pointwise}
use Rattle.naga_opt.specs.declared.report.ProgramFault.{ProgramFault}
use Rattle.naga_opt.specs.declared.report.ProgramFault.TheVariants.{Input, Memory, Output}

-- the byte order mark in UTF-8
abbrev pub mark : List ℕ
mark = 239 ∷ 187 ∷ 191 ∷ []

-- the bytes without the byte order mark, if they begin with one
abbrev pub without_mark : List ℕ → List ℕ
without_mark bytes = if pointwise nat_eq (take 3 bytes) mark then drop 3 bytes else bytes

-- these are the bytes of the input, if they are known
abbrev pub IsKnown : Option (List ℕ) → List ℕ → Type 0
IsKnown input bytes = IfSome input (λ known. bytes ≡ known)

-- the bytes that were read are these, and now the input is at its end if `ended` is true; otherwise there are some
abbrev pub ReadsPart : (ended : Bool) → (old new : Option (List ℕ)) → (part : List ℕ) → Type 0
ReadsPart true old new part = IsAtEnd old × (part ≡ [])
ReadsPart false old new part = Consumes old new part × (0 < length part)

-- the error is that of a call of the reader
abbrev pub IsInputFault : ProgramFault → Type 0
IsInputFault (Input error) = ⊤
IsInputFault fault = ⊥

-- the error is that of a call of the writer
abbrev pub IsOutputFault : ProgramFault → Type 0
IsOutputFault (Output error) = ⊤
IsOutputFault fault = ⊥

-- the error of a call of the reader, or of an allocation
abbrev pub IsStreamError : ProgramFault → Type 0
IsStreamError (Input error) = ⊤
IsStreamError Memory = ⊤
IsStreamError fault = ⊥

-- the result is the error of a call of the reader
abbrev pub IsInput : {T : Type 0} → Result T ProgramFault → Type 0
IsInput (Ok value) = ⊥
IsInput (Err fault) = IsInputFault fault

-- the result is the error of a call of the writer
abbrev pub IsOutput : {T : Type 0} → Result T ProgramFault → Type 0
IsOutput (Ok value) = ⊥
IsOutput (Err fault) = IsOutputFault fault
