-- The modules that use each value at its type, and the first fault of the others.
use Rattle.std.specs.Prelude.{◌≡◌, ◌⊎◌, ⊤, ℕ, All, List, [], map, take, Option, Some, None, slice_get}
use Rattle.std.specs.Option.{option_map}
use Rattle.naga_arena.specs.Arena.{value_at, values}
use Rattle.naga_ir.specs.View.{tree_of}
use Rattle.naga_ir.specs.declared.module.Function as function
use Rattle.naga_ir.specs.declared.module.Module as the_module
use Rattle.naga_flow.specs.Bodies.{functions_of, functions_of_entries}
use Rattle.naga_flow.specs.declared.bodies.BodyOwner.{BodyOwner}
use Rattle.naga_flow.specs.declared.bodies.BodyOwner.TheVariants as owner
use Rattle.naga_typifier.specs.Context.{Context, context_in, context_with}
use Rattle.naga_typifier.specs.Typing.{typing}
use Rattle.naga_typifier.specs.declared.resolution.TypeResolution.{TypeResolution}
use Rattle.naga_typifier.specs.declared.resolve_error.ResolveError.{ResolveError}
use Rattle.naga_typing.specs.Checks.{IsMismatchIn}
use Rattle.naga_typing.specs.Expressions.{ExpressionFits}
use Rattle.naga_typing.specs.Faults.{ExpressionsAreTyped, FitsBy, IsExpressionFault, IsInitialFault}
use Rattle.naga_typing.specs.Found.{found_in}
use Rattle.naga_typing.specs.Initials.{constants_of, locals_of, overrides_of, variables_of}
use Rattle.naga_typing.specs.Requirements.{Signature}
use Rattle.naga_typing.specs.Statements.{BodyIsTyped}
use Rattle.naga_typing.specs.TypedFunctions.{signature_in}
use Rattle.naga_typing.specs.declared.initial.DeclarationKind.TheVariants as kind
use Rattle.naga_typing.specs.declared.invalid_types.InvalidTypes.{InvalidTypes}
use Rattle.naga_typing.specs.declared.invalid_types.InvalidTypes.TheVariants as invalid
use Rattle.naga_typing.specs.declared.invalid_types.TypeFault.{TypeFault}
use Rattle.naga_typing.specs.declared.invalid_types.TypeFault.TheVariants as fault
use Rattle.naga_typing.specs.declared.invalid_types.ValueFault.{ValueFault}
use Rattle.naga_typing.specs.declared.requirement.Requirement.{Requirement}

module _ (whole : the_module.Module) where
  -- ---- functions

  -- the types of the expressions of a function, up to the first that has none, with the error of that one
  abbrev pub typing_in : function.Function → List TypeResolution × Option ResolveError
  typing_in inside = typing (context_in whole inside) [] (values inside.expressions)

  -- each expression of the function has a type, and its body uses each value at its type
  abbrev pub IsTyped : function.Function → Type 0
  IsTyped inside =
      ((typing_in inside).1 ≡ None)
      × BodyIsTyped (context_in whole inside) (slice_get (typing_in inside).0) (signature_in whole inside) (tree_of inside.body)

  -- a requirement that is present is met in the function
  abbrev pub FitsInside : function.Function → Option Requirement → Type 0
  FitsInside inside = FitsBy (context_in whole inside) (signature_in whole inside) (typing_in inside).0

  -- The function is typed, the operands of each expression are as required, and each initial value of a variable has
  -- the type declared.
  pub record FunctionIsTyped (inside : function.Function) : Type 0 where
    pub typed : IsTyped inside
    pub operands : All (ExpressionFits (FitsInside inside)) (values inside.expressions)
    pub variables : All (FitsInside inside) (locals_of inside)

  -- The fault of the function: the first of its expressions, or if there is none, of its variables, or if there is none,
  -- the first mismatch of its body.
  abbrev pub IsFault : function.Function → TypeFault → Type 0
  IsFault inside (fault.Value found) =
      IsExpressionFault (context_in whole inside) (signature_in whole inside) (values inside.expressions) found
      ⊎ (ExpressionsAreTyped (context_in whole inside) (signature_in whole inside) (values inside.expressions)
      × IsInitialFault (context_in whole inside) (signature_in whole inside) (typing_in inside).0 kind.LocalVariable
      (locals_of inside) found)
  IsFault inside (fault.Mismatch mismatch found) =
      ExpressionsAreTyped (context_in whole inside) (signature_in whole inside) (values inside.expressions)
      × All (FitsInside inside) (locals_of inside) × IsMismatchIn (FitsInside inside) (tree_of inside.body) mismatch
      × (found ≡ found_in (context_in whole inside) (slice_get (typing_in inside).0) mismatch.requirement)

  -- ---- declarations

  -- the context of global expressions, where there are no variables of a function and no arguments
  abbrev pub global_context : Context
  global_context =
      context_with whole.constants whole.overrides whole.types whole.special_types whole.global_variables [] whole.functions []

  -- what requirements of global expressions depend on, besides their types
  abbrev pub global_signature : Signature
  global_signature = record {
    parameters = λ handle. option_map (λ called. map (λ argument. argument.ty) called.arguments.items) (value_at whole.functions handle);
    result = None;
    ray_desc = whole.special_types.ray_desc;
  }

  -- the types of global expressions, up to the first that has none
  abbrev pub global_types : List TypeResolution
  global_types = (typing global_context [] (values whole.global_expressions)).0

  -- a requirement that is present is met of a global expression
  abbrev pub FitsGlobally : Option Requirement → Type 0
  FitsGlobally = FitsBy global_context global_signature global_types

  -- Each global expression has a type, and operands as it requires, and each initial value has the type declared.
  pub record DeclarationsAreTyped : Type 0 where
    pub expressions : ExpressionsAreTyped global_context global_signature (values whole.global_expressions)
    pub constants : All FitsGlobally (constants_of whole)
    pub overrides : All FitsGlobally (overrides_of whole)
    pub variables : All FitsGlobally (variables_of whole)

  -- The fault of the declarations: the first of global expressions, or if there is none, of constants, then of
  -- overrides, and then of global variables.
  abbrev pub IsGlobalFault : ValueFault → Type 0
  IsGlobalFault found =
      IsExpressionFault global_context global_signature (values whole.global_expressions) found
      ⊎ (ExpressionsAreTyped global_context global_signature (values whole.global_expressions)
      × (IsInitialFault global_context global_signature global_types kind.Constant (constants_of whole) found
      ⊎ (All FitsGlobally (constants_of whole)
      × (IsInitialFault global_context global_signature global_types kind.Override (overrides_of whole) found
      ⊎ (All FitsGlobally (overrides_of whole)
      × IsInitialFault global_context global_signature global_types kind.GlobalVariable (variables_of whole) found)))))

  -- ---- the whole

  -- the declarations, each function and each entry point are typed
  pub record ModuleIsTyped : Type 0 where
    pub declarations : DeclarationsAreTyped
    pub functions : All FunctionIsTyped (functions_of whole)
    pub entry_points : All FunctionIsTyped (functions_of_entries whole.entry_points.items)

  -- the error names this owner, and the fault of its function
  abbrev pub IsInvalidIn : function.Function → BodyOwner → InvalidTypes → Type 0
  IsInvalidIn inside owner invalid.Memory = ⊤
  IsInvalidIn inside owner (invalid.Declaration found) = ⊥
  IsInvalidIn inside owner (invalid.Function found) = (found.owner ≡ owner) × IsFault inside found.fault

  -- this is the fault of the function at this position, and those before it are typed
  pub record IsFirstAt (functions : List function.Function) (position : ℕ) (fault : TypeFault) : Type 0 where
    pub inside : function.Function
    pub at : slice_get functions position ≡ Some inside
    pub is : IsFault inside fault
    pub earlier : All FunctionIsTyped (take position functions)

  -- the same for the function of this owner, where the functions come before the entry points
  abbrev pub IsFirstOf : BodyOwner → TypeFault → Type 0
  IsFirstOf (owner.Function handle) found = IsFirstAt (functions_of whole) handle found
  IsFirstOf (owner.EntryPoint position) found =
      All FunctionIsTyped (functions_of whole) × IsFirstAt (functions_of_entries whole.entry_points.items) position found

  -- The error names the first fault: that of the declarations, or if there is none, the first function of the module that
  -- is not typed, and its fault. If an allocation failed, nothing is said here.
  abbrev pub IsInvalid : InvalidTypes → Type 0
  IsInvalid invalid.Memory = ⊤
  IsInvalid (invalid.Declaration found) = IsGlobalFault found
  IsInvalid (invalid.Function found) = DeclarationsAreTyped × IsFirstOf found.owner found.fault
