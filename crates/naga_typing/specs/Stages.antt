-- What the stages of the check of a function, and of declarations, find.
use Rattle.std.specs.Prelude.{◌≡◌, ◌⊎◌, ⊤, All}
use Rattle.naga_ir.specs.View.{tree_of}
use Rattle.naga_ir.specs.declared.module.Function as function
use Rattle.naga_ir.specs.declared.module.Module as the_module
use Rattle.naga_typing.specs.Checks.{IsMismatchIn}
use Rattle.naga_typing.specs.Faults.{IsInitialFault}
use Rattle.naga_typing.specs.Found.{found_in}
use Rattle.naga_typing.specs.Initials.{initials}
use Rattle.naga_typing.specs.Statements.{BodyIsTyped}
use Rattle.naga_typing.specs.TypedFunctions.{FitsIn, context_of, signature_of, types_of}
use Rattle.naga_typing.specs.TypedModules.{IsFault, IsGlobalFault}
use Rattle.naga_typing.specs.declared.initial.DeclarationKind.{DeclarationKind}
use Rattle.naga_typing.specs.declared.initial.DeclarationKind.TheVariants as kind
use Rattle.naga_typing.specs.declared.invalid_types.TypeFault.{TypeFault}
use Rattle.naga_typing.specs.declared.invalid_types.TypeFault.TheVariants as fault
use Rattle.naga_typing.specs.declared.invalid_types.ValueFault.{ValueFault}
use Rattle.naga_typing.specs.declared.invalid_types.InvalidFunction.{InvalidFunction}
use Rattle.naga_typing.specs.declared.invalid_types.InvalidFunction.TheVariants as invalid
use Rattle.naga_typing.specs.declared.invalid_types.InvalidValues.{InvalidValues}
use Rattle.naga_typing.specs.declared.invalid_types.InvalidValues.TheVariants as stop
use Rattle.naga_typing.specs.declared.typed_function.TypedFunction.{TypedFunction}

module _ (typed : TypedFunction) where
  -- the initial values of the declarations of this kind have the types declared
  abbrev pub InitialsFit : DeclarationKind → Type 0
  InitialsFit of = All (FitsIn typed) (initials typed.«module».now typed.function.now of)

  -- the fault is the first of these
  abbrev pub IsInitial : DeclarationKind → ValueFault → Type 0
  IsInitial of = IsInitialFault (context_of typed) (signature_of typed) typed.known.now of (initials typed.«module».now typed.function.now of)

  -- the variables and the statements of the function use values at their types
  abbrev pub UsesFit : Type 0
  UsesFit =
      InitialsFit kind.LocalVariable
      × BodyIsTyped (context_of typed) (types_of typed) (signature_of typed) (tree_of typed.function.now.body)

  -- the fault is the first of the variables, or if there is none, of the statements
  abbrev pub IsUseFault : TypeFault → Type 0
  IsUseFault (fault.Value found) = IsInitial kind.LocalVariable found
  IsUseFault (fault.Mismatch mismatch found) =
      InitialsFit kind.LocalVariable × IsMismatchIn (FitsIn typed) (tree_of typed.function.now.body) mismatch
      × (found ≡ found_in (context_of typed) (types_of typed) mismatch.requirement)

  -- the initial values of constants, overrides and global variables have the types declared
  abbrev pub GlobalInitialsFit : Type 0
  GlobalInitialsFit = InitialsFit kind.Constant × InitialsFit kind.Override × InitialsFit kind.GlobalVariable

  -- the fault is the first of constants, or if there is none, of overrides, and then of global variables
  abbrev pub IsGlobalInitialFault : ValueFault → Type 0
  IsGlobalInitialFault found =
      IsInitial kind.Constant found
      ⊎ (InitialsFit kind.Constant × (IsInitial kind.Override found ⊎ (InitialsFit kind.Override × IsInitial kind.GlobalVariable found)))

-- The check of declarations returns their first fault. If an allocation failed, nothing is said here.
abbrev pub AreInvalidDeclarations : the_module.Module → InvalidValues → Type 0
AreInvalidDeclarations whole stop.Memory = ⊤
AreInvalidDeclarations whole (stop.Fault found) = IsGlobalFault whole found

-- why the check of a function ends where that of its expressions does
abbrev pub invalid_function : InvalidValues → InvalidFunction
invalid_function stop.Memory = invalid.Memory
invalid_function (stop.Fault found) = invalid.Fault (fault.Value found)

-- The check of a function ends with its fault. If an allocation failed, nothing is said here.
abbrev pub IsInvalidFunction : the_module.Module → function.Function → InvalidFunction → Type 0
IsInvalidFunction whole inside invalid.Memory = ⊤
IsInvalidFunction whole inside (invalid.Fault found) = IsFault whole inside found
