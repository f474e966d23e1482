-- The lines of a report on the faults of declarations.
use Rattle.std.specs.Prelude.{◌≡◌, ℕ, List, ◌++◌, codes, IfSome, Option, None}
use Rattle.naga_ir.specs.declared.module.Module as the_module
use Rattle.naga_text.specs.Escapes.{visible}
use Rattle.naga_text.specs.Readable.{IsLine}
use Rattle.naga_text.specs.Words.{number}
use Rattle.naga_typing.specs.DeclarationFaults.{AreFaultsOfDeclarations}
use Rattle.naga_typing.specs.Joined.{AreJoined}
use Rattle.naga_typing.specs.Messages.{initialized_text, unmet_text}
use Rattle.naga_typing.specs.declared.invalid_types.ValueFault.{ValueFault}
use Rattle.naga_typing.specs.declared.invalid_types.ValueFault.TheVariants as fault

-- a global expression with its position
abbrev pub expression_text : ℕ → List ℕ
expression_text handle = codes "global expression" ++ number handle

-- what the line of a fault begins with: the global expression or the declaration at fault
abbrev pub fault_head : ValueFault → List ℕ
fault_head (fault.NoType expression error) = expression_text expression ++ codes " has no type"
fault_head (fault.Operand expression unmet) = expression_text expression
fault_head (fault.Initial declared unmet) = initialized_text declared

-- what the line of a fault says behind its beginning; no text is stated of the reason why an expression has no type
abbrev pub said_text : ValueFault → Option (List ℕ)
said_text (fault.NoType expression error) = None
said_text (fault.Operand expression unmet) = unmet_text unmet
said_text (fault.Initial declared unmet) = unmet_text unmet

-- it is what the line of the fault says, if a text is stated
abbrev pub IsSaid : ValueFault → List ℕ → Type 0
IsSaid found said = IfSome (said_text found) (λ known. said ≡ known)

-- the line of a fault of the declarations, which also says what the check finds; its only newline is at its end
abbrev pub IsDeclarationLine : ValueFault → List ℕ → Type 0
IsDeclarationLine found line =
    IsLine line
    × ((said : List ℕ) × IsSaid found said × (line ≡ fault_head found ++ (codes ": " ++ (visible said ++ codes "\n"))))

-- a line for each fault of the declarations of the module, one after another
abbrev pub AreDeclarationLines : the_module.Module → List ℕ → Type 0
AreDeclarationLines whole text =
    (faults : List ValueFault) × AreFaultsOfDeclarations whole faults × AreJoined IsDeclarationLine faults text

-- the lines of the faults of the declarations were appended
abbrev pub AddsDeclarationLines : the_module.Module → (old new : List ℕ) → Type 0
AddsDeclarationLines whole old new = (text : List ℕ) × AreDeclarationLines whole text × (new ≡ old ++ text)
