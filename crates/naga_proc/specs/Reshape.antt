-- The texts that have an answer, and their answers.
use Rattle.std.specs.Prelude.{◌≡◌, ℕ, List, MatchResult, Result, String, string_bytes}
use Rattle.std.specs.declared.alloc.Global.{Global}
use Rattle.naga_ir.specs.Tree.{Tree}
use Rattle.naga_notation.specs.Outline.{Notation}
use Rattle.naga_notation.specs.Refusal.{IsWithinLimits}
use Rattle.naga_notation.specs.declared.error.ShapeError.{ShapeError}
use Rattle.naga_notation.specs.declared.error.ShapeError.TheVariants.{Memory}
use Rattle.naga_proc.specs.Closing.{ClosedBy}
use Rattle.naga_proc.specs.declared.terminator.rule.Rule.{Rule}

-- The text is within the limits and is the notation of a block, and `answer` is the notation of the block that this one
-- closes to by the rule.
abbrev pub Reshapes : Rule → List ℕ → List ℕ → Type 0
Reshapes rule text answer =
    IsWithinLimits text × (block : Tree) × (returning : Tree)
    × Notation text block × ClosedBy rule block returning × Notation answer returning

-- the result is this answer, or allocation failed
abbrev pub IsAnswerOrMemory : Result (String Global) ShapeError → List ℕ → Type 0
IsAnswerOrMemory result answer = MatchResult result (λ given. string_bytes given ≡ answer) (λ error. error ≡ Memory)
