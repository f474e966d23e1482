-- Visitors that stop at an expression that is not below an index.
use Rattle.std.specs.Prelude.{◌≡◌, ◌<◌, ℕ, IfSome}
use Rattle.std.specs.ControlFlow.{MatchControlFlow}
use Rattle.naga_valid.specs.Operands.{expression_of}
use Rattle.naga_valid.specs.Visits.{Step}
use Rattle.naga_valid.specs.declared.reference.Reference.{Reference}

-- if the reference is one to an expression, its index is below this one
abbrev pub IsBelow : ℕ → Reference → Type 0
IsBelow index to = IfSome (expression_of to) (λ operand. operand < index)

-- it stops at a reference to an expression that is not below the index
abbrev pub stops_past : Step (Unit {0}) ℕ
stops_past old to answer new = (new ≡ old) × MatchControlFlow answer (λ _. IsBelow old to) (λ _. ¬ IsBelow old to)
