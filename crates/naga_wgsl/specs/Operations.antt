-- The texts of operations, from those of their operands.
use Rattle.std.specs.Prelude.{ℕ, ◌+◌, ◌==◌, List, [], ◌∷◌, ◌++◌, Result, Ok, Err, codes, if◌then◌else◌}
use Rattle.naga_wgsl.specs.TypeTexts.{text_at}
use Rattle.naga_wgsl.specs.declared.write_error.Cause.{Cause}

-- one text behind another one, if there are both, or else the cause of the first that is missing
abbrev pub followed : (front back : Result (List ℕ) Cause) → Result (List ℕ) Cause
followed (Ok front) (Ok back) = Ok (front ++ back)
followed (Ok front) (Err cause) = Err cause
followed (Err cause) back = Err cause

-- a text, if there is one, between two others
abbrev pub between : (front : List ℕ) → Result (List ℕ) Cause → (back : List ℕ) → Result (List ℕ) Cause
between front (Ok text) back = Ok (front ++ (text ++ back))
between front (Err cause) back = Err cause

-- two operands in parentheses, with an operator between them
abbrev pub infix_text : (left : Result (List ℕ) Cause) (op : List ℕ) (right : Result (List ℕ) Cause) → Result (List ℕ) Cause
infix_text (Ok left) op (Ok right) = Ok (codes "(" ++ (left ++ (codes " " ++ (op ++ (codes " " ++ (right ++ codes ")"))))))
infix_text (Ok left) op (Err cause) = Err cause
infix_text (Err cause) op right = Err cause

-- a space, if a minus sign comes next: two minus signs without a space are another token
abbrev pub gap_before : List ℕ → List ℕ
gap_before [] = []
gap_before (first ∷ rest) = if first == 45 then codes " " else []

-- an operator before its operand, in parentheses
abbrev pub prefix_text : (op : List ℕ) → Result (List ℕ) Cause → Result (List ℕ) Cause
prefix_text op (Ok operand) = Ok (codes "(" ++ (op ++ (gap_before operand ++ (operand ++ codes ")"))))
prefix_text op (Err cause) = Err cause

-- an element of the base, by its index
abbrev pub access_text : (base index : Result (List ℕ) Cause) → Result (List ℕ) Cause
access_text (Ok base) (Ok index) = Ok (base ++ (codes "[" ++ (index ++ codes "]")))
access_text (Ok base) (Err cause) = Err cause
access_text (Err cause) index = Err cause

module _ (known : List (Result (List ℕ) Cause)) where
  -- an operand with a text before it
  abbrev pub operand_text : (before : List ℕ) → (operand : ℕ) → Result (List ℕ) Cause
  operand_text before operand = followed (Ok before) (text_at known operand)

  -- operands, the first with a text before it, and each other one with a comma
  abbrev pub operands_text : (before : List ℕ) → (operands : List ℕ) → Result (List ℕ) Cause
  operands_text before [] = Ok []
  operands_text before (operand ∷ rest) = followed (operand_text before operand) (operands_text (codes ", ") rest)

  -- a call of a function with a name, or a value of a type with this text, made of its components
  abbrev pub call_text : (name : List ℕ) → (operands : List ℕ) → Result (List ℕ) Cause
  call_text name operands = between (name ++ codes "(") (operands_text [] operands) (codes ")")

  -- a call of a function that has a name, or the cause if it has none
  abbrev pub named_call_text : (name : Result (List ℕ) Cause) → (operands : List ℕ) → Result (List ℕ) Cause
  named_call_text (Ok name) operands = call_text name operands
  named_call_text (Err cause) operands = Err cause

module _ {X : Type 0} (text_of : (index : ℕ) → X → Result (List ℕ) Cause) where
  -- the texts of items, one behind another, where the first has this index
  abbrev pub items_text : (index : ℕ) → List X → Result (List ℕ) Cause
  items_text index [] = Ok []
  items_text index (item ∷ rest) = followed (text_of index item) (items_text (index + 1) rest)
