-- The initial values of local variables, which are computed when a function is entered, before its body.
use Rattle.std.specs.Prelude.{◌≡◌, ℕ, Bool, List, All, Option, Some, IfSome}
use Rattle.std.specs.List.{AllZip}
use Rattle.naga_arena.specs.Arena.{value_at}
use Rattle.naga_arena.specs.declared.span.Span.{Span}
use Rattle.naga_ir.specs.declared.expression.Expression.{Expression}
use Rattle.naga_ir.specs.declared.module.Function as function
use Rattle.naga_ir.specs.declared.module.LocalVariable.{LocalVariable}
use Rattle.naga_ir.specs.declared.module.Module as the_module
use Rattle.naga_valid.specs.Operands.{operands_of}
use Rattle.naga_valid.specs.declared.reference.Reference.{Reference}
use Rattle.naga_compact.specs.Operands.{IsReached, OperandsPrecede}
use Rattle.naga_meaning.specs.Functions.{Meanings, code_of, initials}
use Rattle.naga_meaning.specs.Values.{World, entered}
use Rattle.naga_typifier.specs.Context.{context_in}
use Rattle.naga_typifier.specs.Rows.{handle}
use Rattle.naga_typifier.specs.Table.{type_of}
use Rattle.naga_typifier.specs.declared.resolution.TypeResolution.{TypeResolution}
use Rattle.naga_typing.specs.Forms.{Form}
use Rattle.naga_typing.specs.Requirements.{Has}
use Rattle.naga_typing.specs.TypedFunctions.{signature_in}
use Rattle.naga_typing.specs.TypedModules.{IsTyped}
use Rattle.naga_typing.specs.TypedValues.{HasType, HaveTypesOf, IsOperator, applied, types_in}

module _ (whole : the_module.Module) (Accepts : Expression → Type 0) (inside : function.Function) where
  -- each expression that is reached from this one is that of an operator which gives a value of the right type
  abbrev pub IsConstant : ℕ → Type 0
  IsConstant init =
      (x : ℕ) (expression : Expression) → IsReached inside.expressions (λ root. root ≡ init) x →
      value_at inside.expressions x ≡ Some expression → IsOperator expression × Accepts expression

  -- the initial value of the variable, if it has one, has the type of the variable and is that of a constant expression
  abbrev pub HasTypedInitial : LocalVariable × Span → Type 0
  HasTypedInitial entry =
      IfSome entry.0.init
      (λ init. Has (context_in whole inside) (types_in whole inside) (signature_in whole inside) init (handle entry.0.ty)
      × IsConstant init)

  -- Each expression of the function has a type and comes after its operands, and the initial values of local variables
  -- have their types.
  pub record HasTypedInitials : Type 0 where
    pub typed : IsTyped whole inside
    pub precede : OperandsPrecede inside.expressions
    pub initials : All HasTypedInitial inside.local_variables

module _ {Thing Value State : Type 0} (look : Reference → Thing) (by : Meanings Thing Value State)
    (has_type : Value → Form → Type 0) (whole : the_module.Module) (inside : function.Function)
    (Accepts : Expression → Type 0) (Beginning Invariant : State → Type 0) where
  -- the value, if there is one, has the type of the variable
  abbrev pub IsInitial : LocalVariable × Span → Option Value → Type 0
  IsInitial entry initial = IfSome initial (λ it. HasType has_type (context_in whole inside) it (handle entry.0.ty))

  -- What an interpretation must respect where the function is entered. `Beginning` holds of the states before the local
  -- variables have their initial values, and `Invariant` of those after.
  pub record EntersWithTypes : Type 0 where
    -- an operator gives a value of the type of its expression, from values of the types of its operands
    pub operators : (expression : Expression) → IsOperator expression → Accepts expression →
        (ty : TypeResolution) → type_of (context_in whole inside) (types_in whole inside) expression ≡ Some ty →
        (values : List Value) →
        HaveTypesOf has_type (context_in whole inside) (types_in whole inside) (operands_of expression) values →
        (state : State) → Beginning state →
        HasType has_type (context_in whole inside) (applied look by expression values state) ty
    -- the body begins in a state of the function, if the initial values have the types of the variables
    pub enters : (values : List (Option Value)) → AllZip IsInitial inside.local_variables values →
        (state : State) → Beginning state → Invariant (by.enter values state)

-- A function whose initial values have the types of their variables begins its body in a state of its own.
abbrev pub EntersInItsState : (Thing Value State : Type 0) → (has_type : Value → Form → Type 0) →
    (Accepts : function.Function → Expression → Type 0) →
    (Beginning Invariant : function.Function → State → Type 0) → Type 0
EntersInItsState Thing Value State has_type Accepts Beginning Invariant =
    (whole : the_module.Module) (inside : function.Function) → HasTypedInitials whole (Accepts inside) inside →
    (look : Reference → Thing) (by : Meanings Thing Value State) →
    EntersWithTypes look by has_type whole inside (Accepts inside) (Beginning inside) (Invariant inside) →
    (at_use : ℕ → Bool) (start : World Value State) → Beginning inside start.state →
    Invariant inside (entered by (code_of look at_use inside.expressions) (initials inside.local_variables) start).state
