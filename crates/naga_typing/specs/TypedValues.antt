-- Values that have types, and the interpretations that respect the types of a function.
--
-- Which values have which types is up to the interpretation. A type is in one form: a pointer to a declared scalar and a
-- pointer to a value of this scalar are one type, and a declared structure is known by its handle.
use Rattle.std.specs.Prelude.{◌≡◌, ◌⊎◌, ℕ, List, [], ◌∷◌, All, Option, Some, IfSome, slice_get}
use Rattle.std.specs.List.{AllZip, Contains}
use Rattle.naga_arena.specs.Arena.{value_at}
use Rattle.naga_ir.specs.declared.expression.Expression.{Expression}
use Rattle.naga_ir.specs.declared.expression.Expression.TheVariants.{Load}
use Rattle.naga_ir.specs.declared.module.Function as function
use Rattle.naga_ir.specs.declared.module.Module as the_module
use Rattle.naga_ir.specs.declared.statement.Statement.{Statement}
use Rattle.naga_valid.specs.Operands.{operands_of}
use Rattle.naga_valid.specs.declared.reference.Reference.{Reference}
use Rattle.naga_flow.specs.Results.{evaluation_by, evaluation_of, result_of, used_by}
use Rattle.naga_flow.specs.declared.evaluation.Evaluation.TheVariants as by_way
use Rattle.naga_meaning.specs.Forms.{StatementForm}
use Rattle.naga_meaning.specs.Functions.{Meanings, action_of, shape_of}
use Rattle.naga_typifier.specs.Context.{Context, context_in}
use Rattle.naga_typifier.specs.Rows.{handle}
use Rattle.naga_typifier.specs.Table.{type_of}
use Rattle.naga_typifier.specs.declared.resolution.TypeResolution.{TypeResolution}
use Rattle.naga_typing.specs.Forms.{Form, form}
use Rattle.naga_typing.specs.Requirements.{Fits, Signature}
use Rattle.naga_typing.specs.Statements.{required}
use Rattle.naga_typing.specs.TypedFunctions.{signature_in}
use Rattle.naga_typing.specs.TypedModules.{typing_in}

-- The expression gets its value from those of its operands and from the state, where it is evaluated by an `Emit` or is
-- ready when the function is entered. So no statement has it as its result. It is not a load.
abbrev pub IsOperator : Expression → Type 0
IsOperator (Load pointer) = ⊥
IsOperator expression = (evaluation_of expression ≡ by_way.Ready) ⊎ (evaluation_of expression ≡ by_way.Emit)

-- what a statement uses is not its own result
abbrev pub UsesOthers : Statement → Type 0
UsesOthers what = IfSome (result_of what) (λ result. ¬ Contains (used_by what) result)

-- `has_type` says which values have which types.
module _ {Value : Type 0} (has_type : Value → Form → Type 0) (ctx : Context) where
  -- the value has this type
  abbrev pub HasType : Value → TypeResolution → Type 0
  HasType value ty = has_type value (form ctx.types ty)

  -- the value, if there is one, has the declared type, and then there is such a type
  abbrev pub IsReturnedAs : (declared : Option ℕ) → Option Value → Type 0
  IsReturnedAs declared returned =
      IfSome returned (λ value. (ty : ℕ) × (declared ≡ Some ty) × HasType value (handle ty))

  -- the value has the type of the expression with this handle, by the types of the expressions
  abbrev pub HasTypeOf : (known : ℕ → Option TypeResolution) → ℕ → Value → Type 0
  HasTypeOf known operand value = (ty : TypeResolution) × (known operand ≡ Some ty) × HasType value ty

  -- each of these values has the type of the expression with the handle at its position
  abbrev pub HaveTypesOf : (known : ℕ → Option TypeResolution) → List ℕ → List Value → Type 0
  HaveTypesOf known = AllZip (HasTypeOf known)

-- The statement is performed with these values: they have the types of the expressions that it uses, of which none is
-- its result, and what it requires of them is met.
pub record IsPerformed {Thing Value : Type 0} (look : Reference → Thing) (has_type : Value → Form → Type 0)
    (ctx : Context) (known : ℕ → Option TypeResolution) (signature : Signature)
    (what : Statement) (action : StatementForm × List (Option Thing)) (values : List Value) : Type 0 where
  pub acts : action_of look what ≡ Some action
  pub fits : All (Fits ctx known signature) (required what)
  pub typed : HaveTypesOf has_type ctx known (used_by what) values
  pub others : UsesOthers what

-- the value of this expression for operands with these values, whatever their handles
abbrev pub applied : {Thing Value State : Type 0} → (look : Reference → Thing) → Meanings Thing Value State →
    Expression → List Value → State → Value
applied look by expression values state = by.compute (Some (shape_of look expression)) values state

module _ {Thing Value State : Type 0} (look : Reference → Thing) (by : Meanings Thing Value State)
    (has_type : Value → Form → Type 0) (ctx : Context) (known : ℕ → Option TypeResolution) (signature : Signature) where
  -- What an interpretation must respect in a function, so that each value that is computed there has the type of its
  -- expression. `Invariant` holds of the states in which the body of the function may be: by it, arguments have their
  -- types, and so does what is loaded from variables. `Accepts` holds of the expressions of which operators give values of
  -- the right types, since an expression may have a type while its operator does not take its operands.
  pub record RespectsTypes (Accepts : Expression → Type 0) (Invariant : State → Type 0) : Type 0 where
    -- an operator gives a value of the type of its expression, from values of the types of its operands: so a literal, an
    -- argument and a pointer to a variable have their types, and an access gives a part, or a pointer to it
    pub operators : (expression : Expression) → IsOperator expression → Accepts expression →
        (ty : TypeResolution) → type_of ctx known expression ≡ Some ty →
        (values : List Value) → HaveTypesOf has_type ctx known (operands_of expression) values →
        (state : State) → Invariant state → HasType has_type ctx (applied look by expression values state) ty
    -- what is loaded has the type that the pointer points to
    pub loads : (pointer : ℕ) → Accepts (Load pointer) →
        (ty : TypeResolution) → type_of ctx known (Load pointer) ≡ Some ty →
        (value : Value) → HasTypeOf has_type ctx known pointer value →
        (state : State) → Invariant state → HasType has_type ctx (applied look by (Load pointer) (value ∷ []) state) ty
    -- a statement keeps the invariant, also if it ends the run: what is stored has the type that the pointer points to
    pub states : (what : Statement) (action : StatementForm × List (Option Thing)) (values : List Value) →
        IsPerformed look has_type ctx known signature what action values → (state : State) → Invariant state →
        Invariant (by.perform action values state).0
    -- the result of a statement has the type of its expression, which is one that such a statement evaluates
    pub results : (what : Statement) (action : StatementForm × List (Option Thing)) (values : List Value) →
        IsPerformed look has_type ctx known signature what action values → (state : State) → Invariant state →
        (result : ℕ) → result_of what ≡ Some result → (given : Expression) → evaluation_of given ≡ evaluation_by what →
        (ty : TypeResolution) → known result ≡ Some ty → type_of ctx known given ≡ Some ty →
        HasType has_type ctx (by.perform action values state).1 ty

-- the types of the expressions of a function, up to the first that has none
abbrev pub types_in : the_module.Module → function.Function → ℕ → Option TypeResolution
types_in whole inside = slice_get (typing_in whole inside).0

-- the interpretation respects the types of this function of a module
abbrev pub RespectsTypesIn : {Thing Value State : Type 0} → (look : Reference → Thing) → Meanings Thing Value State →
    (has_type : Value → Form → Type 0) → the_module.Module → function.Function → (Accepts : Expression → Type 0) →
    (Invariant : State → Type 0) → Type 0
RespectsTypesIn look by has_type whole inside =
    RespectsTypes look by has_type (context_in whole inside) (types_in whole inside) (signature_in whole inside)

-- an operator gives a value of the right type for each expression of the function
abbrev pub AcceptsEach : (Accepts : Expression → Type 0) → function.Function → Type 0
AcceptsEach Accepts inside =
    (handle : ℕ) (expression : Expression) → value_at inside.expressions handle ≡ Some expression → Accepts expression
