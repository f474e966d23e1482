-- The errors with which the program may end: lemmas on specs/Program.antt.
use Rattle.std.proofs.Common.{◌≡◌, ◌⊎◌, inl, inr, ℕ, List, Option, Some, refl, sym, ap, ◌∙◌}
use Rattle.std.specs.Prelude.{IsUtf8, Result, Ok, Err, String, Vec}
use Rattle.std.specs.declared.alloc.Global.{Global}
use Rattle.naga_notation.specs.declared.error.ShapeError.{ShapeError}
use Rattle.naga_notation.specs.declared.error.ShapeError.TheVariants.{TooLong, Memory}
use Rattle.naga_proc.specs.Reshape.{Reshapes}
use Rattle.naga_proc.specs.declared.terminator.rule.Rule.{Rule}
use Rattle.naga_proc.proofs.Texts.ReshapesLemmas.{Reshapes-refused}
use Rattle.naga_shape.specs.Arguments.{GivesRule}
use Rattle.naga_shape.specs.Faults.{IsRefusedLine, MayFault}
use Rattle.naga_shape.specs.Lines.{line_of}
use Rattle.naga_shape.specs.Program.{MayEndWith}
use Rattle.naga_shape.specs.declared.line.ShapeFault.{ShapeFault}
use Rattle.naga_shape.specs.declared.line.ShapeFault.TheVariants.{Shape, NotUtf8, Input, Output}
use Rattle.naga_shape.specs.declared.report.ProgramFault.{ProgramFault}
use Rattle.naga_shape.specs.declared.report.ProgramFault.TheVariants.{UnexpectedArgument, Line}

-- arguments that could be obtained, and select no rule, are unexpected
MayEndWith-unexpected : (arguments : Vec (String Global) Global) (input : Option (List ℕ)) (fault : ProgramFault)
    → ((rule : Rule) → ¬ GivesRule (Ok arguments) rule) → MayEndWith (Ok arguments) input fault → fault ≡ UnexpectedArgument
MayEndWith-unexpected arguments input UnexpectedArgument none may = refl
MayEndWith-unexpected arguments input (Line fault) none may = absurd (none may.0 may.1)

pub MayEndWith-without_a_rule : (arguments : Result (Vec (String Global) Global) ProgramFault) (input input' : Option (List ℕ)) (fault other : ProgramFault)
    → ((rule : Rule) → ¬ GivesRule arguments rule)
    → MayEndWith arguments input fault → MayEndWith arguments input' other → fault ≡ other
MayEndWith-without_a_rule (Err reason) input input' fault other none may may' = may ∙ sym may'
MayEndWith-without_a_rule (Ok arguments) input input' fault other none may may' =
    MayEndWith-unexpected arguments input fault none may ∙ sym (MayEndWith-unexpected arguments input' other none may')

pub MayEndWith-with_a_rule : (arguments : Result (Vec (String Global) Global) ProgramFault) (rule : Rule) (input : Option (List ℕ))
    → GivesRule arguments rule → ¬ MayEndWith arguments input UnexpectedArgument
MayEndWith-with_a_rule (Err reason) rule input gives may = gives
MayEndWith-with_a_rule (Ok arguments) rule input gives may = may rule gives

-- an error of a line that has an answer can only be that an allocation failed
IsRefusedLine-answered : (rule : Rule) (line answer : List ℕ) (error : ShapeError) → Reshapes rule line answer → IsRefusedLine line error → error ≡ Memory
IsRefusedLine-answered rule line answer TooLong answered refused = Reshapes-refused rule line answer TooLong answered refused
IsRefusedLine-answered rule line answer error answered refused = Reshapes-refused rule line answer error answered refused.1

MayFault-answered : (rule : Rule) (line answer : List ℕ) (fault : ShapeFault) → IsUtf8 line → Reshapes rule line answer → MayFault line fault
    → (fault ≡ Shape Memory) ⊎ (fault ≡ Input) ⊎ (fault ≡ Output)
MayFault-answered rule line answer (Shape error) utf8 answered may = inl (ap Shape (elim may [
  | inl memory ↦ memory
  | inr refused ↦ IsRefusedLine-answered rule line answer error answered refused
]))
MayFault-answered rule line answer NotUtf8 utf8 answered may = absurd (may.1 utf8)
MayFault-answered rule line answer Input utf8 answered may = inr (inl refl)
MayFault-answered rule line answer Output utf8 answered may = inr (inr refl)

pub MayEndWith-answered : (arguments : Result (Vec (String Global) Global) ProgramFault) (rule : Rule) (bytes answer : List ℕ) (fault : ProgramFault)
    → GivesRule arguments rule → IsUtf8 (line_of bytes) → Reshapes rule (line_of bytes) answer → MayEndWith arguments (Some bytes) fault
    → (fault ≡ Line (Shape Memory)) ⊎ (fault ≡ Line Input) ⊎ (fault ≡ Line Output)
MayEndWith-answered (Err reason) rule bytes answer fault gives utf8 answered may = absurd gives
MayEndWith-answered (Ok arguments) rule bytes answer UnexpectedArgument gives utf8 answered may = absurd (may rule gives)
MayEndWith-answered (Ok arguments) rule bytes answer (Line fault) gives utf8 answered may =
    elim (MayFault-answered rule (line_of bytes) answer fault utf8 answered may.2) [
      | inl memory ↦ inl (ap Line memory)
      | inr other ↦ inr (elim other [
        | inl input ↦ inl (ap Line input)
        | inr output ↦ inr (ap Line output)
      ])
    ]
