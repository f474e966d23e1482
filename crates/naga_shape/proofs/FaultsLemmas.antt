-- The errors that a line may have, and the answer that is written: lemmas on specs/Faults.antt.
use Rattle.std.proofs.Common.{◌≡◌, ℕ, List, [], ◌∷◌, ◌++◌, Option, Some, None, sym, subst}
use Rattle.std.specs.Prelude.{Result, Ok, Err, OnOk, IfErr, IfSome}
use Rattle.std.specs.Io.KnownBytes.{Appends}
use Rattle.naga_arena.specs.Location.{newline}
use Rattle.naga_proc.specs.Reshape.{Reshapes}
use Rattle.naga_proc.specs.declared.terminator.rule.Rule.{Rule}
use Rattle.naga_shape.specs.Faults.{MayFault, WritesAnswer}
use Rattle.naga_shape.specs.Lines.{IsLine, line_of}
use Rattle.naga_shape.specs.declared.line.ShapeFault.{ShapeFault}
use Rattle.naga_shape.specs.declared.line.ShapeFault.TheVariants.{Output}

-- the answer to a line is written, if it is appended to the output with a newline
pub WritesAnswer-append : {T E : Type 0} (r : Result T E) (rule : Rule) (remaining old new : Option (List ℕ))
    (text line : List ℕ) → IsLine remaining text
    → ((answer : List ℕ) × Reshapes rule text answer × (line ≡ answer ++ newline ∷ []))
    → OnOk r (Appends old new line) → OnOk r (WritesAnswer rule remaining old new)
WritesAnswer-append (Err e) rule remaining old new text line is answered h = tt
WritesAnswer-append (Ok x) rule None old new text line is answered h = tt
WritesAnswer-append (Ok x) rule (Some bytes) old new text line is answered h =
    (answered.0, subst (λ t. Reshapes rule t answered.0) is answered.1, subst (Appends old new) answered.2 h)

-- the only error is `Output`, if the line may have it
pub MayFault-output : {T : Type 0} (r : Result T ShapeFault) (remaining : Option (List ℕ)) (text : List ℕ)
    → IsLine remaining text → MayFault text Output → IfErr r (λ fault. fault ≡ Output)
    → IfErr r (λ fault. IfSome remaining (λ bytes. MayFault (line_of bytes) fault))
MayFault-output (Ok x) remaining text is may h = tt
MayFault-output (Err e) None text is may h = tt
MayFault-output (Err e) (Some bytes) text is may h =
    subst (MayFault (line_of bytes)) (sym h) (subst (λ t. MayFault t Output) is may)

-- an error that every line may have is one that this line may have
pub MayFault-any_line : {T : Type 0} (r : Result T ShapeFault) (known : Option (List ℕ))
    → IfErr r (λ fault. (line : List ℕ) → MayFault line fault)
    → IfErr r (λ fault. IfSome known (λ bytes. MayFault (line_of bytes) fault))
MayFault-any_line (Ok value) known h = tt
MayFault-any_line (Err fault) None h = tt
MayFault-any_line (Err fault) (Some bytes) h = h (line_of bytes)
