-- Where a byte leads the automaton. Only private clauses cite it.
use Rattle.std.specs.Prelude.{◌≡◌, ℕ, List, ◌∷◌, drop, false, Option, Some, None}
use Rattle.json.specs.Lex.{lex}
use Rattle.json_fault.specs.Rest.{completes, is_string, string_mode, IsReached}
use Rattle.json_fault.specs.declared.mode.Frame.{Frame}
use Rattle.json_fault.specs.declared.mode.Frame.TheVariants as frames
use Rattle.json_fault.specs.declared.mode.Mode.{Mode}
use Rattle.json_fault.specs.declared.mode.Mode.TheVariants.{FirstItem, FirstKey, After}
use Rattle.json_fault.specs.declared.mode.Step.{Step}
use Rattle.json_fault.specs.declared.mode.Step.TheVariants as steps
use Rattle.json_fault.specs.declared.mode.Within.{Within}

-- the mode after a step
abbrev pub mode_after : Step → Mode
mode_after (steps.To mode) = mode
mode_after (steps.Open frames.List) = FirstItem
mode_after (steps.Open frames.Object) = FirstKey
mode_after steps.Close = After

-- the lists and objects around the text after a step, of which the innermost comes first
abbrev pub outer_after : Step → List Frame → List Frame
outer_after (steps.To mode) outer = outer
outer_after (steps.Open frame) outer = frame ∷ outer
outer_after steps.Close outer = drop 1 outer

-- A text that goes on with the byte is JSON exactly if what follows the byte completes the state after the step.
pub record LeadsTo (mode : Mode) (outer : List Frame) (byte : ℕ) (step : Step) : Type 0 where
  pub same : (rest : List ℕ) → completes mode outer (byte ∷ rest) ≡ completes (mode_after step) (outer_after step outer) rest
  pub reached : IsReached (mode_after step) (outer_after step outer)

-- No text goes on with the byte.
pub record IsRefused (mode : Mode) (outer : List Frame) (byte : ℕ) : Type 0 where
  pub none : (rest : List ℕ) → completes mode outer (byte ∷ rest) ≡ false

-- what a byte does in a state: it leads to a step, or no text goes on with it
abbrev pub Steps : Mode → List Frame → ℕ → Option Step → Type 0
Steps mode outer byte (Some step) = LeadsTo mode outer byte step
Steps mode outer byte None = IsRefused mode outer byte

-- A string that goes on with the byte is one exactly if what follows the byte is one after the next part.
pub record Passes (part : Within) (byte : ℕ) (next : Within) : Type 0 where
  pub same : (rest : List ℕ) → is_string part (byte ∷ rest) ≡ is_string next rest
  pub lexed : (rest : List ℕ) → lex (string_mode part) (byte ∷ rest) ≡ lex (string_mode next) rest

-- no string goes on with the byte
pub record IsNoPart (part : Within) (byte : ℕ) : Type 0 where
  pub none : (rest : List ℕ) → is_string part (byte ∷ rest) ≡ false

-- where a byte leads in a string: to the next part, or no string goes on with it
abbrev pub StringSteps : Within → ℕ → Option Within → Type 0
StringSteps part byte (Some next) = Passes part byte next
StringSteps part byte None = IsNoPart part byte
