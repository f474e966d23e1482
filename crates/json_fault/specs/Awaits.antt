-- What is expected in each state of the automaton. Only private clauses cite it.
use Rattle.std.specs.Prelude.{◌≡◌, ℕ, List, [], ◌∷◌, true, Some, None, ◌⊎◌, slice_get}
use Rattle.json_fault.specs.Rest.{completes, IsReached}
use Rattle.json_fault.specs.Steps.{IsNoPart, IsRefused, Passes}
use Rattle.json_fault.specs.declared.mode.Frame.{Frame}
use Rattle.json_fault.specs.declared.mode.Frame.TheVariants as frames
use Rattle.json_fault.specs.declared.mode.Mode.{Mode}
use Rattle.json_fault.specs.Fault.{IsRight}
use Rattle.json_fault.specs.declared.expected.Expected.{Expected}
use Rattle.json_fault.specs.declared.expected.Expected.TheVariants as wants
use Rattle.json_fault.specs.declared.mode.Within.{Within}
use Rattle.json_fault.specs.declared.mode.Within.TheVariants as strings
use Rattle.json_fault.specs.declared.mode.Word.{Word}
use Rattle.json_fault.specs.declared.mode.Word.TheVariants as words

-- a text goes on with the byte
abbrev pub CanTake : Mode → List Frame → ℕ → Type 0
CanTake mode outer byte = (rest : List ℕ) × (completes mode outer (byte ∷ rest) ≡ true)

-- what is expected in a state is right, whatever byte is there
abbrev pub Awaits : Expected → Mode → List Frame → Type 0
Awaits expected mode outer =
    (byte : ℕ) → IsRight (CanTake mode outer) (IsRefused mode outer) (completes mode outer [] ≡ true) ⊥ byte expected

-- what is expected after a value, by the innermost list or object
abbrev pub IsAfter : Expected → List Frame → Type 0
IsAfter wants.TextEnd outer = None ≡ slice_get outer 0
IsAfter wants.CommaOrListEnd outer = Some frames.List ≡ slice_get outer 0
IsAfter wants.CommaOrObjectEnd outer = Some frames.Object ≡ slice_get outer 0
IsAfter expected outer = ⊥

-- what may not be there in a state, inside any lists and objects, is shown by the byte, and by what a text goes on with
abbrev pub IsAbsent : Mode → ℕ → Expected → Type 0
IsAbsent mode byte expected =
    (outer : List Frame) → IsReached mode outer → IsRight (CanTake mode outer) (λ _. ⊥) ⊥ ⊥ byte expected

-- what is expected in a string, for what it had so far
abbrev pub awaited : Within → Expected
awaited strings.Plain = wants.Quote
awaited strings.Backslash = wants.Escape
awaited strings.High = wants.LowSurrogate
awaited strings.HighBackslash = wants.LowSurrogate
awaited strings.Low = wants.LowSurrogate
awaited strings.LowD = wants.LowSurrogate
awaited part = wants.HexDigit

-- what is expected in a literal
abbrev pub awaited_word : Word → Expected
awaited_word words.True = wants.True
awaited_word words.False = wants.False
awaited_word words.Null = wants.Null

-- the byte ends the string, or a string goes on with it
abbrev pub CanPass : Within → ℕ → Type 0
CanPass part byte = ((part ≡ strings.Plain) × (byte ≡ 34)) ⊎ ((next : Within) × Passes part byte next)

-- what is expected in a string is right, whatever byte is there
abbrev pub AwaitsPart : Expected → Within → Type 0
AwaitsPart expected part = (byte : ℕ) → IsRight (CanPass part) (IsNoPart part) ⊥ ⊥ byte expected

-- what may not be there in a string is shown by the byte, and by what a string goes on with
abbrev pub IsAbsentPart : Within → ℕ → Expected → Type 0
IsAbsentPart part byte expected = IsRight (CanPass part) (λ _. ⊥) ⊥ ⊥ byte expected
