-- The first fault of the expressions of an arena, and of initial values.
use Rattle.std.specs.Prelude.{◌≡◌, ◌<◌, ⊤, ℕ, All, List, [], length, take, Option, Some, None, slice_get}
use Rattle.naga_ir.specs.declared.expression.Expression.{Expression}
use Rattle.naga_typifier.specs.Context.{Context}
use Rattle.naga_typifier.specs.Typing.{typing}
use Rattle.naga_typifier.specs.declared.resolution.TypeResolution.{TypeResolution}
use Rattle.naga_typifier.specs.declared.resolve_error.ResolveError.{ResolveError}
use Rattle.naga_typing.specs.Checks.{IsFirstUnmet}
use Rattle.naga_typing.specs.Expressions.{ExpressionFits, required_by_expression}
use Rattle.naga_typing.specs.Found.{found_in}
use Rattle.naga_typing.specs.Initials.{declaration_at}
use Rattle.naga_typing.specs.Requirements.{Fits, Signature}
use Rattle.naga_typing.specs.declared.initial.DeclarationKind.{DeclarationKind}
use Rattle.naga_typing.specs.declared.invalid_types.Unmet.{Unmet}
use Rattle.naga_typing.specs.declared.invalid_types.ValueFault.{ValueFault}
use Rattle.naga_typing.specs.declared.invalid_types.ValueFault.TheVariants as fault
use Rattle.naga_typing.specs.declared.requirement.Requirement.{Requirement}
use Rattle.naga_typing.specs.declared.invalid_types.InvalidValues.{InvalidValues}
use Rattle.naga_typing.specs.declared.invalid_types.InvalidValues.TheVariants as stop

-- a predicate on requirements that are absent or present
module _ (fits : Option Requirement → Type 0) where
  -- The requirement is the first that is not met of the expression at this position, which is one of this number at the
  -- beginning, and those before it fit.
  pub record IsFirstUnfit (expressions : List Expression) (count position : ℕ) (unmet : Requirement) : Type 0 where
    pub inside : Expression
    pub at : slice_get expressions position ≡ Some inside
    pub within : position < count
    pub first : IsFirstUnmet fits (required_by_expression inside) unmet
    pub earlier : All (ExpressionFits fits) (take position expressions)

  -- the requirement at this position is the first of these that is not met
  pub record IsFirstUnmetAt (slots : List (Option Requirement)) (position : ℕ) (unmet : Requirement) : Type 0 where
    pub at : slice_get slots position ≡ Some (Some unmet)
    pub fails : ¬ fits (Some unmet)
    pub earlier : All fits (take position slots)

-- `types` are the types of the expressions at the beginning of an arena
module _ (ctx : Context) (signature : Signature) (types : List TypeResolution) where
  -- a requirement that is present is met
  abbrev pub FitsBy : Option Requirement → Type 0
  FitsBy = Fits ctx (slice_get types) signature

  -- the unmet requirement is with the type that is found
  abbrev pub IsFound : Unmet → Type 0
  IsFound unmet = unmet.found ≡ found_in ctx (slice_get types) unmet.requirement

  -- the fault is that of the first operand that is not what is required, of this number of expressions at the beginning
  abbrev pub IsOperandFault : List Expression → (count : ℕ) → ValueFault → Type 0
  IsOperandFault expressions count (fault.Operand expression unmet) =
      IsFirstUnfit FitsBy expressions count expression unmet.requirement × IsFound unmet
  IsOperandFault expressions count _ = ⊥

  -- the fault is that of the first of these initial values, of declarations of one kind, that has not the type declared
  abbrev pub IsInitialFault : DeclarationKind → List (Option Requirement) → ValueFault → Type 0
  IsInitialFault kind slots (fault.Initial declared unmet) =
      (position : ℕ) × (declared ≡ declaration_at kind position)
      × IsFirstUnmetAt FitsBy slots position unmet.requirement × IsFound unmet
  IsInitialFault kind slots _ = ⊥

module _ (ctx : Context) (signature : Signature) (expressions : List Expression) where
  -- the types of the expressions, up to the first that has none, with the error of that one
  abbrev pub typed : List TypeResolution × Option ResolveError
  typed = typing ctx [] expressions

  -- each expression has a type, and operands as it requires
  abbrev pub ExpressionsAreTyped : Type 0
  ExpressionsAreTyped = (typed.1 ≡ None) × All (ExpressionFits (FitsBy ctx signature typed.0)) expressions

  -- The fault is the first of the expressions: one has no type, where the operands of those before it are as required, or
  -- an operand of one is not.
  abbrev pub IsExpressionFault : ValueFault → Type 0
  IsExpressionFault (fault.NoType expression error) =
      (expression ≡ length typed.0) × (typed.1 ≡ Some error)
      × All (ExpressionFits (FitsBy ctx signature typed.0)) (take expression expressions)
  IsExpressionFault other = IsOperandFault ctx signature typed.0 expressions (length typed.0) other

  -- The check of expressions ends with the first fault. If an allocation failed, nothing is said here.
  abbrev pub IsStop : InvalidValues → Type 0
  IsStop stop.Memory = ⊤
  IsStop (stop.Fault found) = IsExpressionFault found
