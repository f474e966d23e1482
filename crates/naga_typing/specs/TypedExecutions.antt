-- Executions in which each value that is computed has the type of its expression.
--
-- The value of an expression is computed where the expression is evaluated: by an `Emit`, or by the statement of which it
-- is the result, and then it is stored; or where it is used, from the state there.
use Rattle.std.specs.Prelude.{◌≡◌, ℕ, Bool, true, List, [], ◌∷◌, ◌++◌, Option, None}
use Rattle.std.specs.List.{Contains}
use Rattle.naga_arena.specs.Arena.{value_at}
use Rattle.naga_arena.specs.declared.span.Span.{Span}
use Rattle.naga_kinds.specs.declared.scalar.Scalar.{Scalar}
use Rattle.naga_kinds.specs.declared.scalar.TheConstants.Scalar.{BOOL}
use Rattle.naga_ir.specs.Tree.{Tree}
use Rattle.naga_ir.specs.View.{tree_of}
use Rattle.naga_ir.specs.declared.expression.Expression.{Expression}
use Rattle.naga_ir.specs.declared.module.Function as function
use Rattle.naga_ir.specs.declared.module.Module as the_module
use Rattle.naga_ir.specs.declared.statement.Statement.{Statement}
use Rattle.naga_valid.specs.declared.reference.Reference.{Reference}
use Rattle.naga_flow.specs.Events.{Event, met, branched, selected, returned, evaluated_in}
use Rattle.naga_flow.specs.Readings.{constant_chains_in, emitted_in}
use Rattle.naga_flow.specs.Results.{emitted_by, used_by}
use Rattle.naga_flow.specs.Scopes.{BlockPasses}
use Rattle.naga_flow.specs.Uses.{operands_found}
use Rattle.naga_compact.specs.Operands.{OperandsPrecede}
use Rattle.naga_meaning.specs.Adequacy.{IsABeginning, after}
use Rattle.naga_meaning.specs.Forms.{ExpressionForm}
use Rattle.naga_meaning.specs.Functions.{Meanings, code_of, parts}
use Rattle.naga_meaning.specs.Machine.{Machine, does}
use Rattle.naga_meaning.specs.Renaming.{Each}
use Rattle.naga_meaning.specs.Values.{Code, Outcome, World, emit, machine, outcome, value}
use Rattle.naga_typifier.specs.Context.{Context, context_in}
use Rattle.naga_typifier.specs.declared.resolution.TypeResolution.{TypeResolution}
use Rattle.naga_typing.specs.Forms.{Form}
use Rattle.naga_typing.specs.Requirements.{Signature, sized_type}
use Rattle.naga_typing.specs.Runs.{Selects}
use Rattle.naga_typing.specs.TypedFunctions.{signature_in}
use Rattle.naga_typing.specs.TypedModules.{IsTyped}
use Rattle.naga_typing.specs.TypedValues.{AcceptsEach, HasType, HasTypeOf, IsReturnedAs, RespectsTypesIn, types_in}

-- the state in the end is one of the function, and what is returned has the type of the function's result
pub record OutcomeHasTypes {Value State : Type 0} (has_type : Value → Form → Type 0) (ctx : Context)
    (signature : Signature) (Invariant : State → Type 0) (left : Outcome Value State) : Type 0 where
  pub state : Invariant left.state
  pub returned : IsReturnedAs has_type ctx signature.result left.returned

module _ {Thing Value State : Type 0} (look : Reference → Thing) (by : Meanings Thing Value State)
    (has_type : Value → Form → Type 0) (ctx : Context) (known : ℕ → Option TypeResolution) (signature : Signature)
    (Invariant : State → Type 0) (at_use : ℕ → Bool) (arena : List (Expression × Span)) where
  -- the expressions, of which these are evaluated where they are used
  abbrev code : Code (Option (ExpressionForm × List (Option Thing)))
  code = code_of look at_use arena

  -- the machine of a body with these expressions
  abbrev pub machine_of : Machine (World Value State)
  machine_of = machine (parts look) by code

  -- the value of the expression in this world, where it is used, has its type
  abbrev pub IsUsed : World Value State → ℕ → Type 0
  IsUsed world handle = HasTypeOf has_type ctx known handle (value by code world handle)

  -- In this world, in which these expressions have been evaluated, the value of each of them has its type, and so has the
  -- value of each expression that is evaluated where it is used.
  pub record WorldHasTypes (evaluated : List ℕ) (world : World Value State) : Type 0 where
    pub state : Invariant world.state
    pub stored : (handle : ℕ) → Contains evaluated handle → HasTypeOf has_type ctx known handle (world.values handle)
    pub used : (handle : ℕ) → at_use handle ≡ true → IsUsed world handle

  -- In this world, the values that the event uses have the types of their expressions: what a statement uses after it
  -- emits, a condition or a selector, and what is returned. A condition is a bool, and a selector an `i32` or a `u32`.
  abbrev pub EventHasTypes : Event → World Value State → Type 0
  EventHasTypes (met what) world = Each (IsUsed (emit by code (emitted_by what) world)) (used_by what)
  EventHasTypes (branched handle) world =
      IsUsed world handle × HasType has_type ctx (value by code world handle) (sized_type None BOOL)
  EventHasTypes (selected handle values) world =
      IsUsed world handle × (scalar : Scalar) × Selects ctx known signature scalar
      × HasType has_type ctx (value by code world handle) (sized_type None scalar)
  EventHasTypes (returned handle) world = IsUsed world handle

  -- At each point of the execution of a body that begins in this world, all values have the types of their expressions,
  -- and so have those that the next event uses, and the operands of each expression that an `Emit` evaluates, when it does.
  -- What is left in the end has types, too.
  pub record ExecutionHasTypes (turns : ℕ) (body : Tree) (start : World Value State) : Type 0 where
    pub worlds : (begun : IsABeginning machine_of turns body start (does machine_of turns body start))
        (before later : List Event) → begun.happened ≡ before ++ later →
        WorldHasTypes (evaluated_in before) (after machine_of before start)
    pub events : (begun : IsABeginning machine_of turns body start (does machine_of turns body start))
        (before later : List Event) (event : Event) → begun.happened ≡ before ++ event ∷ later →
        EventHasTypes event (after machine_of before start)
    pub operands : (begun : IsABeginning machine_of turns body start (does machine_of turns body start))
        (before later : List Event) (what : Statement) → begun.happened ≡ before ++ met what ∷ later →
        (first rest : List ℕ) (handle : ℕ) → emitted_by what ≡ first ++ handle ∷ rest →
        Each (IsUsed (emit by code first (after machine_of before start))) (operands_found (value_at arena handle))
    pub outcome : OutcomeHasTypes has_type ctx signature Invariant (outcome (parts look) by code turns body start)

-- What a function must be, so that its values have types. Only chosen accesses by constant indices are evaluated where
-- they are used.
pub record IsChecked (whole : the_module.Module) (Accepts : Expression → Type 0) (chosen : ℕ → Bool)
    (inside : function.Function) : Type 0 where
  -- each expression has a type, and the body uses each value at its type, as the check of types has it
  pub typed : IsTyped whole inside
  -- an operator gives a value of the right type for each expression
  pub accepted : AcceptsEach Accepts inside
  -- each expression comes after its operands
  pub precede : OperandsPrecede inside.expressions
  -- what is used has been evaluated, and nothing is evaluated again in its scope, as the check of uses has it
  pub passes : BlockPasses (emitted_in chosen inside.expressions) [] [] (tree_of inside.body)

-- the execution of the function's body from this world has types
abbrev pub FunctionHasTypes : {Thing Value State : Type 0} → (look : Reference → Thing) → Meanings Thing Value State →
    (has_type : Value → Form → Type 0) → the_module.Module → (Invariant : State → Type 0) → (chosen : ℕ → Bool) →
    function.Function → (turns : ℕ) → World Value State → Type 0
FunctionHasTypes look by has_type whole Invariant chosen inside turns start =
    ExecutionHasTypes look by has_type (context_in whole inside) (types_in whole inside) (signature_in whole inside)
    Invariant (constant_chains_in chosen inside.expressions) inside.expressions turns (tree_of inside.body) start

-- In a function that passes the checks, each value that is computed has the type of its expression: for each
-- interpretation that respects types, from each start in a state of the function, for each bound of turns.
abbrev pub ValuesHaveTypes : (Thing Value State : Type 0) → (has_type : Value → Form → Type 0) →
    (Accepts : function.Function → Expression → Type 0) → (Invariant : function.Function → State → Type 0) → Type 0
ValuesHaveTypes Thing Value State has_type Accepts Invariant =
    (whole : the_module.Module) (inside : function.Function) (chosen : ℕ → Bool) →
    IsChecked whole (Accepts inside) chosen inside →
    (look : Reference → Thing) (by : Meanings Thing Value State) →
    RespectsTypesIn look by has_type whole inside (Accepts inside) (Invariant inside) →
    (turns : ℕ) (start : World Value State) → Invariant inside start.state →
    FunctionHasTypes look by has_type whole (Invariant inside) chosen inside turns start
