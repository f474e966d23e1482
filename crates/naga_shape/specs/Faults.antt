-- The errors that a line may have.
use Rattle.std.specs.Prelude.{◌≡◌, ℕ, ◌≤◌, ◌⊎◌, List, [], ◌∷◌, ◌++◌, length, Option, IfSome, IsUtf8, ⊤, Result, Ok, Err}
use Rattle.std.specs.Io.KnownBytes.{Appends}
use Rattle.naga_notation.specs.Limits.{most_bytes}
use Rattle.naga_notation.specs.declared.error.ShapeError.{ShapeError}
use Rattle.naga_notation.specs.declared.error.ShapeError.TheVariants.{TooLong, Memory}
use Rattle.naga_notation.specs.Refusal.{Refused}
use Rattle.naga_proc.specs.Reshape.{Reshapes}
use Rattle.naga_proc.specs.declared.terminator.rule.Rule.{Rule}
use Rattle.naga_shape.specs.Lines.{line_of}
use Rattle.naga_arena.specs.Location.{newline}
use Rattle.naga_shape.specs.declared.line.ShapeFault.{ShapeFault}
use Rattle.naga_shape.specs.declared.line.ShapeFault.TheVariants.{Shape, NotUtf8, Input, Output}

-- the line may be rejected with this error: any line if it is too long, and otherwise only a line that is UTF-8
abbrev pub IsRefusedLine : List ℕ → ShapeError → Type 0
IsRefusedLine line TooLong = Refused line TooLong
IsRefusedLine line error = IsUtf8 line × Refused line error

-- The line may have this error. At any line, an allocation or a read may fail. A line that has an answer under one rule
-- has one under the other rule too.
abbrev pub MayFault : List ℕ → ShapeFault → Type 0
MayFault line (Shape error) = (error ≡ Memory) ⊎ IsRefusedLine line error
MayFault line NotUtf8 = (length line ≤ most_bytes) × ¬ IsUtf8 line
MayFault line Input = ⊤
MayFault line Output = (rule : Rule) × (answer : List ℕ) × Reshapes rule line answer

-- if the input is known, the answer to its line under the rule was written, followed by a newline
abbrev pub WritesAnswer : Rule → Option (List ℕ) → Option (List ℕ) → Option (List ℕ) → Type 0
WritesAnswer rule input old new =
    IfSome input
    (λ bytes. (answer : List ℕ) × Reshapes rule (line_of bytes) answer × Appends old new (answer ++ newline ∷ []))

-- the result is the error `Input`
abbrev pub IsInput : {T : Type 0} → Result T ShapeFault → Type 0
IsInput (Ok value) = ⊥
IsInput (Err fault) = fault ≡ Input

-- the result is the error `Output`
abbrev pub IsOutput : {T : Type 0} → Result T ShapeFault → Type 0
IsOutput (Ok value) = ⊥
IsOutput (Err fault) = fault ≡ Output
