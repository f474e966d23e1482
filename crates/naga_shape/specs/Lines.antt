-- Lines, and how they are read in parts.
use Rattle.std.specs.Prelude.{◌≡◌, ℕ, ◌==◌, ◌<◌, List, ◌++◌, length, ⊤, Bool, true, false, Option, Some, None}
use Rattle.std.specs.List.{before_first}
use Rattle.naga_arena.specs.Location.{newline}

-- `true` if the byte is a newline
abbrev pub is_newline : ℕ → Bool
is_newline byte = byte == newline

-- the bytes before the first newline, or all bytes if there is no newline
abbrev pub line_of : List ℕ → List ℕ
line_of bytes = before_first is_newline bytes

-- the part contains no newline: the line continues with the bytes that follow the part
abbrev pub IsOpen : List ℕ → Type 0
IsOpen part = (rest : List ℕ) → line_of (part ++ rest) ≡ part ++ line_of rest

-- the line ends inside the chunk, whichever bytes follow it
abbrev pub IsEnded : List ℕ → Type 0
IsEnded chunk = (rest : List ℕ) → line_of (chunk ++ rest) ≡ line_of chunk

-- the part of the line that is in the chunk: the bytes before the first newline if the line ends in the chunk, and the
-- whole chunk otherwise
abbrev pub TakesPart : Bool → List ℕ → List ℕ → Type 0
TakesPart true chunk part = (part ≡ line_of chunk) × IsEnded chunk × (length part < length chunk)
TakesPart false chunk part = (part ≡ chunk) × IsOpen chunk

-- this is the line of the bytes, if they are known
abbrev pub IsLine : Option (List ℕ) → List ℕ → Type 0
IsLine None line = ⊤
IsLine (Some bytes) line = line ≡ line_of bytes

-- the line of the bytes that remained before the read is this part, followed by the line of the bytes that remain now
abbrev pub BeginsLine : Option (List ℕ) → Option (List ℕ) → List ℕ → Type 0
BeginsLine None now part = ⊤
BeginsLine (Some bytes) None part = ⊥
BeginsLine (Some bytes) (Some rest) part = line_of bytes ≡ part ++ line_of rest

-- the part that was read is the whole rest of the line, or it is not empty and the line continues
abbrev pub ReadsPart : Bool → Option (List ℕ) → Option (List ℕ) → List ℕ → Type 0
ReadsPart true old new part = IsLine old part
ReadsPart false old new part = BeginsLine old new part × (0 < length part)
