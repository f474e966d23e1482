-- An interpretation by values with components that respects types.
--
-- The operators that build values and take them apart do what they should: literals, zero values, compositions, splats,
-- swizzles, accesses, selections, loads and pointers to variables. So do stores, which change a part of a variable. A
-- difference, a minimum, a clamped value, a conjunction of bits and a remainder are computed of numbers. What else an
-- operator gives is indeterminate, as are elements outside their arrays. Initial values of variables are left out: a variable begins with any value of its type.
use Rattle.std.specs.Prelude.{◌≡◌, ◌-◌, ◌+◌, ◌%◌, bit_and, ℕ, Bool, true, false, ◌&&◌, List, [], ◌∷◌, ◌++◌, length, map, get_or, max, min, Option, Some, None, Result, Ok, Err, is_some, nat_eq, if◌then◌else◌}
use Rattle.std.specs.List.{range_with_len}
use Rattle.std.specs.Option.{option_map}
use Rattle.naga_arena.specs.Arena.{value_at}
use Rattle.naga_kinds.specs.Scalar.{components_of}
use Rattle.naga_kinds.specs.Swizzle.{place_of}
use Rattle.naga_kinds.specs.declared.address_space.AddressSpace.{AddressSpace}
use Rattle.naga_kinds.specs.declared.address_space.AddressSpace.TheVariants as space
use Rattle.naga_kinds.specs.declared.math.MathFunction.TheVariants.{Clamp, Min}
use Rattle.naga_kinds.specs.declared.operator.BinaryOperator.TheVariants.{And, Modulo, Subtract}
use Rattle.naga_kinds.specs.declared.operator.SwizzleComponent.{SwizzleComponent}
use Rattle.naga_kinds.specs.declared.scalar.Scalar.{Scalar}
use Rattle.naga_kinds.specs.declared.scalar.TheConstants.Scalar.{U32}
use Rattle.naga_kinds.specs.declared.scalar.VectorSize.{VectorSize}
use Rattle.naga_ir.specs.Literal.{scalar_of, u32_of}
use Rattle.naga_ir.specs.declared.const_value.ConstValueError.{ConstValueError}
use Rattle.naga_ir.specs.declared.expression.Expression.{Expression}
use Rattle.naga_ir.specs.declared.expression.Expression.TheVariants as expression
use Rattle.naga_ir.specs.declared.literal.Literal as literal
use Rattle.naga_ir.specs.declared.literal.Literal.TheVariants as written
use Rattle.naga_ir.specs.declared.module.Function as function
use Rattle.naga_ir.specs.declared.module.Module as the_module
use Rattle.naga_ir.specs.declared.statement.Statement.{Statement, Store}
use Rattle.naga_ir.specs.declared.types.TypeInner.{TypeInner}
use Rattle.naga_ir.specs.declared.types.TypeInner.TheVariants as inner
use Rattle.naga_valid.specs.declared.reference.Reference.{Reference}
use Rattle.naga_valid.specs.declared.reference.Reference.TheVariants as reference
use Rattle.naga_meaning.specs.Calls.{Calls}
use Rattle.naga_meaning.specs.Forms.{ExpressionForm, StatementForm, of_compose, of_expression, of_statement}
use Rattle.naga_meaning.specs.Functions.{Meanings}
use Rattle.naga_typifier.specs.Context.{Context, context_in, inner_at}
use Rattle.naga_typifier.specs.Rows.{◌>>=◌, handle}
use Rattle.naga_typing.specs.Forms.{Form, form}
use Rattle.naga_typing.specs.ModelValues.{Value, Variable, composite, contents_in, count_in, has_type, indeterminate, number_type, numeric, part_at, part_behind, pointing, type_behind, variable_type, with_part_behind, zero_within}
use Rattle.naga_typing.specs.TypedCalls.{AreArguments}

-- ---- states

-- the state: the function that runs, its arguments, how many calls it is inside, and what is in each variable
pub record State : Type 0 where
  pub running : function.Function
  pub arguments : List Value
  pub depth : ℕ
  pub memory : Variable → Value

-- the two are one variable
abbrev pub is_same : Variable → Variable → Bool
is_same one other = nat_eq one.ty other.ty && (nat_eq one.depth other.depth && nat_eq one.number other.number)

-- the memory after this value is stored in a part of a variable
abbrev pub stored_in : Variable → (path : List ℕ) → Value → (Variable → Value) → Variable → Value
stored_in variable path value memory other =
    if is_same other variable then with_part_behind path value (memory other) else memory other

-- ---- operators

-- the number of a boolean
abbrev pub number_of_truth : Bool → ℕ
number_of_truth true = 1
number_of_truth false = 0

-- a number, or 0 if there is none
abbrev pub number_or_zero : Result ℕ ConstValueError → ℕ
number_or_zero (Ok number) = number
number_or_zero (Err error) = 0

-- the number of a literal, or 0 if it is neither a boolean nor a number that an index can be
abbrev pub number_of : literal.Literal → ℕ
number_of (written.Bool truth) = number_of_truth truth
number_of number = number_or_zero (u32_of number)

-- the number 1 of this scalar
abbrev pub one_of : Option Scalar → Value
one_of None = indeterminate
one_of (Some scalar) = numeric scalar 1

-- the second of two values, or the third if the first is 0
abbrev pub chosen : (condition accept reject : Value) → Value
chosen (numeric scalar number) accept reject = if nat_eq number 0 then reject else accept
chosen _ accept reject = indeterminate

-- the same for each component
abbrev pub chosen_each : (conditions : ℕ → Value) → (accept reject : Value) → Value
chosen_each conditions (composite count accepted) (composite others rejected) =
    composite count (λ position. chosen (conditions position) (accepted position) (rejected position))
chosen_each conditions accept reject = indeterminate

-- what a selection gives
abbrev pub selected : List Value → Value
selected (composite count conditions ∷ accept ∷ reject ∷ []) = chosen_each conditions accept reject
selected (condition ∷ accept ∷ reject ∷ []) = chosen condition accept reject
selected _ = indeterminate

-- the difference of two numbers, where an indeterminate one is 1
abbrev pub difference : (left right : Value) → Value
difference (numeric scalar number) (numeric of other) = numeric of (number - other)
difference indeterminate (numeric of other) = numeric of (1 - other)
difference left right = indeterminate

-- the minimum of two numbers, or the only one that is a number
abbrev pub least : (value limit : Value) → Value
least (numeric scalar number) (numeric of other) = numeric of (min number other)
least value (numeric of other) = numeric of other
least (numeric scalar number) limit = numeric scalar number
least value limit = indeterminate

-- a number that is clamped between two others, or the upper limit if one of the others is none
abbrev pub confined : (value low high : Value) → Value
confined (numeric scalar number) (numeric from lower) (numeric of upper) = numeric of (min (max number lower) upper)
confined value low (numeric of upper) = numeric of upper
confined value low high = indeterminate

-- the bits that two numbers have in common, or the only one that is a number
abbrev pub common : (left right : Value) → Value
common (numeric scalar number) (numeric of other) = numeric of (bit_and number other)
common left (numeric of other) = numeric of other
common (numeric scalar number) right = numeric scalar number
common left right = indeterminate

-- the remainder of a division, or the last below the divisor if the dividend is no number
abbrev pub remainder : (left right : Value) → Value
remainder (numeric scalar number) (numeric of other) = numeric of (number % other)
remainder left (numeric of other) = numeric of (other - 1)
remainder left right = indeterminate

-- what an operator of two operands gives for the values of these
abbrev pub of_two : (Value → Value → Value) → List Value → Value
of_two f (first ∷ second ∷ []) = f first second
of_two f _ = indeterminate

-- what an operator of three operands gives for their values
abbrev pub of_three : (Value → Value → Value → Value) → List Value → Value
of_three f (first ∷ second ∷ third ∷ []) = f first second third
of_three f _ = indeterminate

-- what an operator of one operand gives for its value
abbrev pub of_one : (Value → Value) → List Value → Value
of_one f (value ∷ []) = f value
of_one f _ = indeterminate

-- a vector of this size, each of whose components is the value
abbrev pub splatted : VectorSize → Value → Value
splatted size value = composite (components_of size) (λ position. value)

-- a vector of this size of the components of a pattern
abbrev pub swizzled : VectorSize → List SwizzleComponent → Value → Value
swizzled size pattern vector =
    composite (components_of size) (λ position. part_at vector (get_or (map place_of pattern) position 0))

-- the components of a value, or the value itself if it has none
abbrev pub components : Value → List Value
components (composite count parts) = map parts (range_with_len 0 count)
components value = value ∷ []

-- the components of these values, one after another
abbrev pub components_of_all : List Value → List Value
components_of_all [] = []
components_of_all (value ∷ rest) = components value ++ components_of_all rest

-- a value with these parts, if they are as many as it has
abbrev pub built : Option ℕ → List Value → Value
built None parts = indeterminate
built (Some count) parts =
    if nat_eq (length parts) count then composite count (λ position. get_or parts position indeterminate) else indeterminate

-- a value of a type with these contents, composed of these values, of which those of a vector may be vectors, too
abbrev pub composed : Option TypeInner → List Value → Value
composed None values = indeterminate
composed (Some (inner.Vector size scalar)) values = built (Some (components_of size)) (components_of_all values)
composed (Some what) values = built (count_in what) values

-- what is in the part to which a pointer points
abbrev pub loaded_from : (memory : Variable → Value) → Value → Value
loaded_from memory (pointing variable path) = part_behind (memory variable) path
loaded_from memory value = indeterminate

-- a pointer into this space, or what a handle represents
abbrev pub in_space : AddressSpace → Value → Value
in_space space.Handle value = indeterminate
in_space space value = value

module _ (ctx : Context) where
  -- the type of what is named, or the type that is named
  abbrev pub type_named : Reference → Option ℕ
  type_named (reference.«Type» ty) = Some ty
  type_named (reference.Constant constant) = ctx.constants constant
  type_named (reference.Override override) = ctx.overrides override
  type_named _ = None

  -- the form of the type of the first thing that is named
  abbrev pub form_named : List (Option Reference) → Option Form
  form_named (Some name ∷ rest) = option_map (λ ty. form ctx.types (handle ty)) (type_named name)
  form_named _ = None

  -- a pointer to a variable of this type, or what a handle represents
  abbrev pub variable_in : (depth number : ℕ) → Option (AddressSpace × ℕ) → Value
  variable_in depth number None = indeterminate
  variable_in depth number (Some found) =
      in_space found.0 (pointing (record { ty = found.1; depth = depth; number = number }) [])

  -- a pointer to a global variable
  abbrev pub global_named : List (Option Reference) → Value
  global_named (Some (reference.GlobalVariable variable) ∷ rest) = variable_in 0 variable (ctx.globals variable)
  global_named _ = indeterminate

  -- the part of a value, or a pointer to the part of what a pointer points to
  abbrev pub accessed_at : (position : ℕ) → Value → Value
  accessed_at position (pointing variable path) =
      if is_some (type_behind ctx.types (variable_type ctx.types variable) (position ∷ path))
      then pointing variable (position ∷ path) else indeterminate
  accessed_at position value = part_at value position

  -- the same for the position that is the value of an index
  abbrev pub accessed : (base index : Value) → Value
  accessed base (numeric scalar position) = accessed_at position base
  accessed base index = indeterminate

  -- What an operator gives, by the names of what its expression refers to, the values of its operands, and the state. Zero
  -- values have parts inside one another down to the depth `bound`.
  abbrev pub by_operator : (bound : ℕ) → Expression → List (Option Reference) → List Value → State → Value
  by_operator bound (expression.Literal written) names values state = numeric (scalar_of written) (number_of written)
  by_operator bound (expression.Constant constant) names values state = zero_within ctx.types bound (form_named names)
  by_operator bound (expression.Override override) names values state = one_of (form_named names >>= number_type)
  by_operator bound (expression.ZeroValue ty) names values state = zero_within ctx.types bound (form_named names)
  by_operator bound (expression.Access base index) names values state = of_two accessed values
  by_operator bound (expression.AccessIndex base index) names values state = of_one (accessed_at index) values
  by_operator bound (expression.Splat size value) names values state = of_one (splatted size) values
  by_operator bound (expression.Swizzle size vector pattern) names values state = of_one (swizzled size pattern) values
  by_operator bound (expression.FunctionArgument index) names values state = get_or state.arguments index indeterminate
  by_operator bound (expression.GlobalVariable variable) names values state = global_named names
  by_operator bound (expression.LocalVariable variable) names values state =
      variable_in state.depth variable (option_map (λ ty. (space.Function, ty)) (ctx.locals variable))
  by_operator bound (expression.Load pointer) names values state = of_one (loaded_from state.memory) values
  by_operator bound (expression.Binary Subtract left right) names values state = of_two difference values
  by_operator bound (expression.Binary And left right) names values state = of_two common values
  by_operator bound (expression.Binary Modulo left right) names values state = of_two remainder values
  by_operator bound (expression.Select condition accept reject) names values state = selected values
  by_operator bound (expression.Math Min arg arg1 arg2 arg3) names values state = of_two least values
  by_operator bound (expression.Math Clamp arg arg1 arg2 arg3) names values state = of_three confined values
  by_operator bound (expression.ArrayLength array) names values state = numeric U32 2
  by_operator bound _ names values state = indeterminate

  -- what the form of an expression gives
  abbrev pub by_form : (bound : ℕ) → ExpressionForm → List (Option Reference) → List Value → State → Value
  by_form bound of_compose names values state = composed (form_named names >>= contents_in ctx.types) values
  by_form bound (of_expression operator) names values state = by_operator bound operator names values state

  -- what a shape gives
  abbrev pub by_shape : (bound : ℕ) → Option (ExpressionForm × List (Option Reference)) → List Value → State → Value
  by_shape bound None values state = indeterminate
  by_shape bound (Some shape) values state = by_form bound shape.0 shape.1 values state

-- ---- statements

-- the state after a store through a pointer
abbrev pub stored : List Value → State → State
stored (pointing variable path ∷ value ∷ []) state =
    record state { memory = stored_in variable path value state.memory }
stored values state = state

-- the state after a statement
abbrev pub by_statement : Statement → List Value → State → State
by_statement (Store pointer value) values state = stored values state
by_statement _ values state = state

-- the same, by the form of the statement
abbrev pub by_action : StatementForm → List Value → State → State
by_action (of_statement what) values state = by_statement what values state
by_action _ values state = state

-- the number that a value is, or 0 if it is none
abbrev pub as_number : Value → ℕ
as_number (numeric scalar number) = number
as_number value = 0

-- a value that may be absent, and is then indeterminate
abbrev pub or_indeterminate : Option Value → Value
or_indeterminate None = indeterminate
or_indeterminate (Some value) = value

-- the state in which a function begins that is called with these arguments, and the same state if there is none
abbrev pub entered_with : Option function.Function → List Value → State → State
entered_with None values state = state
entered_with (Some callee) values state =
    record { running = callee; arguments = values; depth = state.depth + 1; memory = state.memory }

-- ---- the interpretation

-- each handle represents itself
abbrev pub itself : Reference → Reference
itself name = name

module _ (whole : the_module.Module) where
  -- the interpretation of expressions and statements in this module
  abbrev pub interpretation : Meanings Reference Value State
  interpretation = record {
    compute = λ shape values state.
        by_shape (context_in whole state.running) (length whole.types + 3) shape values state;
    perform = λ action values state. (by_action action.0 values state, indeterminate);
    stop = λ action values state. None;
    decide = as_number;
    choose = λ value cases. as_number value;
    enter = λ inits state. state;
  }

  -- the function that is named
  abbrev pub function_named : Reference → Option function.Function
  function_named (reference.Function called) = value_at whole.functions called
  function_named _ = None

  -- A call begins with its arguments, and leaves what is in variables and what is returned.
  abbrev pub calls : Calls Reference Value State
  calls = record {
    begin = λ name values state. (entered_with (function_named name) values state, indeterminate);
    finish = λ left state. (record state { memory = left.state.memory }, or_indeterminate left.returned);
  }

  -- the value has this type in the module
  abbrev pub has_type_in : Value → Form → Type 0
  has_type_in = has_type (inner_at whole.types)

  -- A state in which this function runs: its arguments have the types of its parameters, and what is in each variable has
  -- the type of the variable.
  pub record IsStateOf (inside : function.Function) (state : State) : Type 0 where
    pub runs : state.running ≡ inside
    pub arguments : AreArguments has_type_in whole inside state.arguments
    pub memory : (variable : Variable) →
        has_type_in (state.memory variable) (variable_type (inner_at whole.types) variable)
