-- An interpretation that respects indices and clamps. It has a variable that statements store to, and an array in a
-- buffer, whose length differs from start to start. Only loads see what was stored.
use Rattle.std.specs.Prelude.{ℕ, suc, ◌+◌, ◌-◌, ◌%◌, bit_and, List, ◌∷◌, Option, Some, None, Result, Ok, Err, nat_le, nat_lt, if◌then◌else◌, slice_index_or}
use Rattle.naga_arena.specs.Limits.{max_len}
use Rattle.naga_kinds.specs.declared.math.MathFunction.{MathFunction}
use Rattle.naga_kinds.specs.declared.math.MathFunction.TheVariants.{Clamp, Min}
use Rattle.naga_kinds.specs.declared.operator.BinaryOperator.{BinaryOperator}
use Rattle.naga_kinds.specs.declared.operator.BinaryOperator.TheVariants.{And, Modulo, Subtract}
use Rattle.naga_ir.specs.Literal.{u32_of}
use Rattle.naga_ir.specs.declared.const_value.ConstValueError.{ConstValueError}
use Rattle.naga_ir.specs.declared.expression.Expression.{Expression}
use Rattle.naga_ir.specs.declared.expression.Expression.TheVariants as expr
use Rattle.naga_ir.specs.declared.literal.Literal.{Literal}
use Rattle.naga_ir.specs.declared.literal.Literal.TheVariants.{U32}
use Rattle.naga_ir.specs.declared.statement.Statement.{Statement, Store}
use Rattle.naga_valid.specs.declared.reference.Reference.{Reference}
use Rattle.naga_meaning.specs.Calls.{Calls}
use Rattle.naga_meaning.specs.Forms.{ExpressionForm, StatementForm, of_expression, of_statement}
use Rattle.naga_meaning.specs.Functions.{Meanings}

-- ---- values

-- A number of type `u32`, a number of another integer type, a negative number, a pointer to the variable, a pointer to
-- the element of the array with this index, or a pointer to nothing.
pub data Value : Type 0 where
  unsigned : (number : ℕ) → Value
  integer : (number : ℕ) → Value
  negative : Value
  to_variable : Value
  to_element : (index : ℕ) → Value
  to_nothing : Value

-- a value of an integer type as an index
abbrev pub number : Value → Option ℕ
number (unsigned n) = Some n
number (integer n) = Some n
number _ = None

-- a value of type `u32` as an index
abbrev pub unsigned_number : Value → Option ℕ
unsigned_number (unsigned n) = Some n
unsigned_number _ = None

-- the number of a value, or 0 if it has none
abbrev pub read : Value → ℕ
read (unsigned n) = n
read (integer n) = n
read _ = 0

-- ---- states

-- the value of the variable, the last index of the array, and the arguments of the function
pub record Memory : Type 0 where
  pub variable : Value
  pub last : ℕ
  pub arguments : List Value

-- the smaller of two numbers
abbrev pub smaller : ℕ → ℕ → ℕ
smaller m n = if nat_le m n then m else n

-- the larger of two numbers
abbrev pub larger : ℕ → ℕ → ℕ
larger m n = if nat_le m n then n else m

-- the length of the array: it is not empty, and its last index fits into 32 bits
abbrev pub extent : Memory → ℕ
extent memory = suc (smaller memory.last max_len)

-- ---- expressions

-- the operand at this position
abbrev pub operand : List Value → (position : ℕ) → Value
operand values position = slice_index_or values position (unsigned 0)

-- a literal that is not of type `u32`
abbrev pub other_literal : Result ℕ ConstValueError → Value
other_literal (Ok n) = integer n
other_literal (Err error) = negative

abbrev pub literal : Literal → Value
literal (U32 n) = unsigned n
literal written = other_literal (u32_of written)

abbrev pub by_function : MathFunction → List Value → Value
by_function Min values = unsigned (smaller (read (operand values 0)) (read (operand values 1)))
by_function Clamp values =
    unsigned (smaller (larger (read (operand values 0)) (read (operand values 1))) (read (operand values 2)))
by_function _ values = unsigned 0

abbrev pub by_binary : BinaryOperator → List Value → Value
by_binary Subtract values = unsigned (read (operand values 0) - read (operand values 1))
by_binary And values = unsigned (bit_and (read (operand values 0)) (read (operand values 1)))
by_binary Modulo values = unsigned (read (operand values 0) % read (operand values 1))
by_binary _ values = unsigned 0

-- a pointer to the element with this index, or to what is past the end
abbrev pub element_or : (past : Value) → (index : ℕ) → Memory → Value
element_or past index memory = if nat_lt index (extent memory) then to_element index else past

-- what is read through a pointer; an element is its index and 100
abbrev pub loaded : Value → Memory → Value
loaded to_variable memory = memory.variable
loaded (to_element index) memory = unsigned (100 + index)
loaded _ memory = unsigned 0

-- What an operator gives. Past the end of an array, an access by a computed index differs from one by a constant index.
abbrev pub by_operator : Expression → List Value → Memory → Value
by_operator (expr.Literal written) values memory = literal written
by_operator (expr.Override handle) values memory = unsigned (extent memory)
by_operator (expr.FunctionArgument index) values memory = operand memory.arguments index
by_operator (expr.LocalVariable handle) values memory = to_variable
by_operator (expr.Access base index) values memory = element_or to_nothing (read (operand values 1)) memory
by_operator (expr.AccessIndex base index) values memory = element_or negative index memory
by_operator (expr.Load pointer) values memory = loaded (operand values 0) memory
by_operator (expr.Binary op left right) values memory = by_binary op values
by_operator (expr.Math fun arg arg1 arg2 arg3) values memory = by_function fun values
by_operator (expr.As expr kind convert) values memory = unsigned (read (operand values 0))
by_operator (expr.ArrayLength array) values memory = unsigned (extent memory)
by_operator _ values memory = unsigned 0

-- what a form of an expression gives
abbrev pub by_form : ExpressionForm → List Value → Memory → Value
by_form (of_expression operator) values memory = by_operator operator values memory
by_form _ values memory = unsigned 0

-- what a shape gives
abbrev pub by_shape : Option (ExpressionForm × List (Option ℕ)) → List Value → Memory → Value
by_shape (Some shape) values memory = by_form shape.0 values memory
by_shape None values memory = unsigned 0

-- ---- statements

-- the value of the variable after a value is stored through a pointer
abbrev pub stored : (pointer value : Value) → Memory → Value
stored to_variable value memory = value
stored _ value memory = memory.variable

abbrev pub by_statement : Statement → List Value → Memory → Value
by_statement (Store pointer value) values memory = stored (operand values 0) (operand values 1) memory
by_statement _ values memory = memory.variable

-- the value of the variable after an action
abbrev pub by_action : StatementForm → List Value → Memory → Value
by_action (of_statement what) values memory = by_statement what values memory
by_action _ values memory = memory.variable

-- the value of the variable when a function is entered: its first initial value, if there is one
abbrev pub initialized : List (Option Value) → Memory → Value
initialized (Some value ∷ rest) memory = value
initialized _ memory = memory.variable

-- the interpretation
abbrev pub remembering : Meanings ℕ Value Memory
remembering = record {
  compute = λ shape values memory. by_shape shape values memory;
  perform = λ action values memory. (record memory { variable = by_action action.0 values memory }, unsigned 0);
  stop = λ action values memory. None;
  decide = λ value. read value;
  choose = λ value cases. read value;
  enter = λ initials memory. record memory { variable = initialized initials memory };
}

-- ---- calls

-- what a call returns
abbrev pub result : Option Value → Value
result (Some value) = value
result None = unsigned 0

-- A call begins with its arguments, and its caller sees what it stores.
abbrev pub plain_calls : Calls ℕ Value Memory
plain_calls = record {
  begin = λ thing values memory. (record memory { arguments = values }, unsigned 0);
  finish = λ left memory. (record memory { variable = left.state.variable }, result left.returned);
}

-- all handles represent the same
abbrev pub nothing_known : Reference → ℕ
nothing_known name = 0
