-- The faults of declarations: of each constant, override and global variable whose initial value has not the type declared.
use Rattle.std.specs.Prelude.{◌≡◌, ◌⊎◌, ℕ, List, [], ◌∷◌, ◌++◌, map, Option, Some}
use Rattle.std.specs.List.{enumerate_from}
use Rattle.naga_arena.specs.Arena.{values}
use Rattle.naga_ir.specs.declared.module.Module as the_module
use Rattle.naga_typifier.specs.Context.{Context}
use Rattle.naga_typifier.specs.declared.resolution.TypeResolution.{TypeResolution}
use Rattle.naga_typing.specs.Faults.{ExpressionsAreTyped, FitsBy, IsExpressionFault, IsFound}
use Rattle.naga_typing.specs.Initials.{constants_of, declaration_at, overrides_of, variables_of}
use Rattle.naga_typing.specs.Joined.{Adds, AddsJoined, AreJoined}
use Rattle.naga_typing.specs.Requirements.{Signature}
use Rattle.naga_typing.specs.TypedModules.{global_context, global_signature, global_types}
use Rattle.naga_typing.specs.declared.initial.DeclarationKind.{DeclarationKind}
use Rattle.naga_typing.specs.declared.initial.DeclarationKind.TheVariants as kind
use Rattle.naga_typing.specs.declared.initial.Initialized.{Initialized}
use Rattle.naga_typing.specs.declared.invalid_types.Unmet.{Unmet}
use Rattle.naga_typing.specs.declared.invalid_types.ValueFault.{ValueFault}
use Rattle.naga_typing.specs.declared.invalid_types.ValueFault.TheVariants as fault
use Rattle.naga_typing.specs.declared.requirement.Requirement.{Requirement}

-- a declaration, with what it requires of its initial value
abbrev pub Declaration : Type 0
Declaration = Initialized × Option Requirement

-- the declaration of this kind at a position, with what it requires
abbrev pub numbered : DeclarationKind → ℕ × Option Requirement → Declaration
numbered of entry = (declaration_at of entry.0, entry.1)

-- the declarations of this kind, by their handles, from what they require
abbrev pub declarations : DeclarationKind → List (Option Requirement) → List Declaration
declarations of slots = map (numbered of) (enumerate_from 0 slots)

-- the constants of a module, then its overrides, and then its global variables
abbrev pub declarations_of : the_module.Module → List Declaration
declarations_of whole =
    declarations kind.Constant (constants_of whole)
    ++ (declarations kind.Override (overrides_of whole) ++ declarations kind.GlobalVariable (variables_of whole))

-- `types` are the types of the expressions at the beginning of an arena
module _ (ctx : Context) (signature : Signature) (types : List TypeResolution) where
  -- The one fault of a declaration whose initial value has not the type declared. It names the declaration, what it
  -- requires, and the type that is found. Other declarations have none.
  abbrev pub AreFaultsOf : Declaration → List ValueFault → Type 0
  AreFaultsOf declaration faults =
      (FitsBy ctx signature types declaration.1 × (faults ≡ []))
      ⊎ ((unmet : Unmet) × (declaration.1 ≡ Some unmet.requirement) × ¬ FitsBy ctx signature types declaration.1
      × IsFound ctx signature types unmet × (faults ≡ fault.Initial declaration.0 unmet ∷ []))

  -- the faults of each of these declarations, one after another
  abbrev pub AreInitialFaults : List Declaration → List ValueFault → Type 0
  AreInitialFaults = AreJoined AreFaultsOf

  -- the fault of the declaration was appended, if it has one
  abbrev pub AddsFaultsOf : Declaration → (old new : List ValueFault) → Type 0
  AddsFaultsOf = Adds AreFaultsOf

  -- the faults of these declarations were appended
  abbrev pub AddsInitialFaults : List Declaration → (old new : List ValueFault) → Type 0
  AddsInitialFaults = AddsJoined AreFaultsOf

module _ (whole : the_module.Module) where
  -- the first fault of global expressions is the only one of the list
  abbrev pub IsOnlyFault : List ValueFault → Type 0
  IsOnlyFault faults =
      (found : ValueFault)
      × IsExpressionFault (global_context whole) (global_signature whole) (values whole.global_expressions) found
      × (faults ≡ found ∷ [])

  -- The faults of the declarations of a module: the first of global expressions, behind which no types are known, or if
  -- there is none, those of all constants, overrides and global variables.
  abbrev pub AreFaultsOfDeclarations : List ValueFault → Type 0
  AreFaultsOfDeclarations faults =
      IsOnlyFault faults
      ⊎ (ExpressionsAreTyped (global_context whole) (global_signature whole) (values whole.global_expressions)
      × AreInitialFaults (global_context whole) (global_signature whole) (global_types whole) (declarations_of whole) faults)
