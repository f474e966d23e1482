-- The first requirement that is not met.
use Rattle.std.specs.Prelude.{◌≡◌, ℕ, ◌∷◌, ◌++◌, All, List, length, MatchResult, Option, Some, Result}
use Rattle.naga_arena.specs.declared.span.Span.{Span}
use Rattle.naga_ir.specs.Tree.{Node, Tree}
use Rattle.naga_flow.specs.Jumps.{numbered}
use Rattle.naga_flow.specs.Tracking.{IsFirstNot}
use Rattle.naga_typing.specs.Statements.{EntryFits, required_by, statements}
use Rattle.naga_typing.specs.declared.mismatch.TypeMismatch.{TypeMismatch}
use Rattle.naga_typing.specs.declared.requirement.Requirement.{Requirement}

-- which requirements are met, if they are present
module _ (fits : Option Requirement → Type 0) where
  -- the requirement is the first of these that is not met
  abbrev pub IsFirstUnmet : List (Option Requirement) → Requirement → Type 0
  IsFirstUnmet slots unmet = IsFirstNot fits slots (Some unmet)

  -- a check of these requirements finds the first that is not met, if there is one
  abbrev pub Checks : {X : Type 0} → List (Option Requirement) → Result X Requirement → Type 0
  Checks slots result = MatchResult result (λ _. All fits slots) (IsFirstUnmet slots)

  -- The mismatch is that of the first of these statements of which a requirement is not met, with this number of statements
  -- before them, and of the first such requirement of that statement.
  pub record IsFirstMismatch (all : List (Node × Span)) (met : ℕ) (mismatch : TypeMismatch) : Type 0 where
    pub before : List (Node × Span)
    pub at : Node × Span
    pub after : List (Node × Span)
    pub split : all ≡ before ++ at ∷ after
    pub earlier : All (EntryFits fits) before
    pub first : IsFirstUnmet (required_by at.0) mismatch.requirement
    pub span : mismatch.span ≡ at.1
    pub statement : mismatch.statement ≡ numbered met (length before)

  -- a walk over these statements, with this number before them: it passes all, or ends at the first mismatch
  abbrev pub Walks : List (Node × Span) → ℕ → Result ℕ TypeMismatch → Type 0
  Walks all met result =
      MatchResult result (λ next. All (EntryFits fits) all × (next ≡ numbered met (length all))) (IsFirstMismatch all met)

  -- the first mismatch of a body
  abbrev pub IsMismatchIn : Tree → TypeMismatch → Type 0
  IsMismatchIn body = IsFirstMismatch (statements body) 0
