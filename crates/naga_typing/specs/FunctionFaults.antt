-- The faults of a function: of each expression, each variable and each statement of which a requirement is not met.
use Rattle.std.specs.Prelude.{◌≡◌, ◌⊎◌, ℕ, All, List, [], ◌∷◌, ◌++◌, length, map, take, Option, Some, None, slice_get}
use Rattle.std.specs.List.{enumerate_from}
use Rattle.naga_arena.specs.Arena.{values}
use Rattle.naga_arena.specs.declared.span.Span.{Span}
use Rattle.naga_ir.specs.Tree.{Node}
use Rattle.naga_ir.specs.View.{tree_of}
use Rattle.naga_ir.specs.declared.expression.Expression.{Expression}
use Rattle.naga_ir.specs.declared.module.Function as function
use Rattle.naga_ir.specs.declared.module.Module as the_module
use Rattle.naga_flow.specs.Jumps.{numbered}
use Rattle.naga_typifier.specs.Context.{Context, context_in}
use Rattle.naga_typifier.specs.declared.resolution.TypeResolution.{TypeResolution}
use Rattle.naga_typifier.specs.declared.resolve_error.ResolveError.{ResolveError}
use Rattle.naga_typing.specs.Checks.{IsFirstUnmet}
use Rattle.naga_typing.specs.Expressions.{required_by_expression}
use Rattle.naga_typing.specs.Faults.{FitsBy}
use Rattle.naga_typing.specs.Found.{found_in}
use Rattle.naga_typing.specs.Initials.{locals_of}
use Rattle.naga_typing.specs.Joined.{AddsUpTo, AreJoined}
use Rattle.naga_typing.specs.Requirements.{Signature}
use Rattle.naga_typing.specs.Statements.{required_by, statements}
use Rattle.naga_typing.specs.TypedFunctions.{context_of, signature_in, signature_of}
use Rattle.naga_typing.specs.TypedModules.{typing_in}
use Rattle.naga_typing.specs.declared.initial.Initialized.TheVariants as initial
use Rattle.naga_typing.specs.declared.invalid_types.TypeFault.{TypeFault}
use Rattle.naga_typing.specs.declared.invalid_types.TypeFault.TheVariants as fault
use Rattle.naga_typing.specs.declared.invalid_types.Unmet.{Unmet}
use Rattle.naga_typing.specs.declared.invalid_types.ValueFault.TheVariants as value_fault
use Rattle.naga_typing.specs.declared.requirement.Requirement.{Requirement}
use Rattle.naga_typing.specs.declared.typed_function.TypedFunction.{TypedFunction}

-- A part of a function: an expression, a variable or a statement without those inside it. It has what it requires, and its
-- fault if this is the first requirement that is not met.
pub record Part : Type 0 where
  pub required : List (Option Requirement)
  pub fault : Requirement → TypeFault

-- `types` are the types of the expressions at the beginning of an arena
module _ (ctx : Context) (signature : Signature) (types : List TypeResolution) where
  -- a requirement that is not met, with the type that is found
  abbrev pub unmet : Requirement → Unmet
  unmet requirement = record { requirement = requirement; found = found_in ctx (slice_get types) requirement }

  -- an expression, with its handle
  abbrev pub of_expression : ℕ × Expression → Part
  of_expression entry = record {
    required = required_by_expression entry.1;
    fault = λ requirement. fault.Value (value_fault.Operand entry.0 (unmet requirement));
  }

  -- what a variable requires of its initial value, with its handle
  abbrev pub of_variable : ℕ × Option Requirement → Part
  of_variable entry = record {
    required = entry.1 ∷ [];
    fault = λ requirement. fault.Value (value_fault.Initial (initial.LocalVariable entry.0) (unmet requirement));
  }

  -- a statement and its span, with its number
  abbrev pub of_statement : ℕ × (Node × Span) → Part
  of_statement entry = record {
    required = required_by entry.1.0;
    fault = λ requirement.
        fault.Mismatch (record { statement = entry.0; span = entry.1.1; requirement = requirement })
        (found_in ctx (slice_get types) requirement);
  }

  -- the expressions of an arena
  abbrev pub expression_parts : List Expression → List Part
  expression_parts all = map of_expression (enumerate_from 0 all)

  -- the variables of a function, from what they require
  abbrev pub variable_parts : List (Option Requirement) → List Part
  variable_parts slots = map of_variable (enumerate_from 0 slots)

  -- statements in the order in which they are read, with `met` before them
  abbrev pub statement_parts : (met : ℕ) → List (Node × Span) → List Part
  statement_parts met all = map (λ entry. of_statement (numbered met entry.0, entry.1)) (enumerate_from 0 all)

  -- A part has one fault if a requirement is not met: that of the first such requirement. Otherwise it has none.
  abbrev pub AreFaultsOf : Part → List TypeFault → Type 0
  AreFaultsOf part faults =
      (All (FitsBy ctx signature types) part.required × (faults ≡ []))
      ⊎ ((requirement : Requirement) × IsFirstUnmet (FitsBy ctx signature types) part.required requirement
      × (faults ≡ part.fault requirement ∷ []))

  -- the faults of each of these parts, one after another
  abbrev pub AreFaultsOfParts : List Part → List TypeFault → Type 0
  AreFaultsOfParts = AreJoined AreFaultsOf

module _ (whole : the_module.Module) (inside : function.Function) where
  -- the expressions of the function, its variables, and then its statements, each before those inside it
  abbrev pub parts_of : List TypeResolution → List Part
  parts_of types =
      let ctx = context_in whole inside in let signature = signature_in whole inside in
      expression_parts ctx signature types (values inside.expressions)
      ++ (variable_parts ctx signature types (locals_of inside)
      ++ statement_parts ctx signature types 0 (statements (tree_of inside.body)))

  -- The faults, by the types of the expressions. If one has no type, they are those of the expressions before it, and then
  -- its own, since no types are known behind it.
  abbrev pub AreFaultsBy : List TypeResolution × Option ResolveError → List TypeFault → Type 0
  AreFaultsBy (types, None) faults =
      AreFaultsOfParts (context_in whole inside) (signature_in whole inside) types (parts_of types) faults
  AreFaultsBy (types, Some error) faults =
      let ctx = context_in whole inside in let signature = signature_in whole inside in
      (operands : List TypeFault)
      × AreFaultsOfParts ctx signature types
      (take (length types) (expression_parts ctx signature types (values inside.expressions))) operands
      × (faults ≡ operands ++ fault.Value (value_fault.NoType (length types) error) ∷ [])

  -- the faults of the function
  abbrev pub AreFaultsOfFunction : List TypeFault → Type 0
  AreFaultsOfFunction = AreFaultsBy (typing_in whole inside)

  -- the faults of the function, or the first of them up to this number
  abbrev pub AreFirstFaults : (limit : ℕ) → List TypeFault → Type 0
  AreFirstFaults limit faults = (all : List TypeFault) × AreFaultsOfFunction all × (faults ≡ take limit all)

-- the faults of these parts were appended, as far as the list may grow
abbrev pub AddsFaults : TypedFunction → (limit : ℕ) → List Part → (old new : List TypeFault) → Type 0
AddsFaults typed limit = AddsUpTo limit (AreFaultsOf (context_of typed) (signature_of typed) typed.known.now)

-- A walk went over these statements, with `met` before them, and appended their faults. It returns how many statements come
-- before what is read next.
pub record WalksOver (typed : TypedFunction) (limit : ℕ) (all : List (Node × Span)) (met : ℕ) (old new : List TypeFault) (after : ℕ) : Type 0 where
  pub number : after ≡ numbered met (length all)
  pub adds : AddsFaults typed limit (statement_parts (context_of typed) (signature_of typed) typed.known.now met all) old new
