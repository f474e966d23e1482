-- Small bodies, and interpretations under which their meanings are computed.
use Rattle.std.specs.Prelude.{ℕ, suc, pred, ◌+◌, ◌-◌, ◌^◌, ◌%◌, false, List, [], ◌∷◌, Option, None, Some, if◌then◌else◌, nat_eq, nat_lt, Vec, unwrap_or}
use Rattle.std.specs.declared.alloc.Global.{Global}
use Rattle.naga_arena.specs.Span.{undefined}
use Rattle.naga_arena.specs.declared.span.Span.{Span}
use Rattle.naga_kinds.specs.declared.operator.BinaryOperator.TheVariants as operator
use Rattle.naga_kinds.specs.declared.switch.SwitchValue.{SwitchValue}
use Rattle.naga_kinds.specs.declared.switch.SwitchValue.TheVariants.{U32}
use Rattle.naga_ir.specs.Tree.{Tree, empty, push, Node, plain, branch, switch, loop, jump, kill, return, Cases, no_cases, case}
use Rattle.naga_ir.specs.declared.expression.AtomicFunction.TheVariants as atomic
use Rattle.naga_ir.specs.declared.expression.Expression.{Expression}
use Rattle.naga_ir.specs.declared.expression.Expression.TheVariants as expression
use Rattle.naga_ir.specs.declared.literal.Literal.TheVariants as literal
use Rattle.naga_ir.specs.declared.statement.Statement.{Statement}
use Rattle.naga_ir.specs.declared.statement.Statement as statement
use Rattle.naga_valid.specs.declared.reference.Reference.{Reference}
use Rattle.naga_valid.specs.declared.reference.Reference.TheVariants as reference
use Rattle.naga_compact.specs.Renaming.{of_expressions}
use Rattle.naga_compact.specs.Renaming.Blocks.{rename_tree}
use Rattle.naga_proc.specs.Closing.{closed}
use Rattle.naga_proc.specs.declared.terminator.rule.Rule.{Rule}
use Rattle.naga_meaning.specs.Calls.{Calls, blank, called}
use Rattle.naga_meaning.specs.Forms.{ExpressionForm, of_expression, StatementForm, of_statement}
use Rattle.naga_meaning.specs.Functions.{Meanings, code_of, meaning, parts}
use Rattle.naga_meaning.specs.Readings.{Reading, chains_in}
use Rattle.naga_meaning.specs.Switches.{case_of}
use Rattle.naga_meaning.specs.Values.{Outcome, outcome}

-- each handle represents the same
abbrev pub nothing_known : Reference → ℕ
nothing_known name = 0

-- ---- counting statements

-- each statement adds one to the state, and each value is this number
abbrev pub counting : (value : ℕ) → Meanings ℕ ℕ ℕ
counting value = record {
  compute = λ shape values state. value;
  perform = λ action values state. (suc state, value);
  stop = λ action values state. None;
  decide = λ value. value;
  choose = λ value cases. case_of (U32 value) cases;
  enter = λ inits state. state;
}

-- what a body without expressions leaves, where each expression has this value
abbrev pub left_by : (value : ℕ) → Tree → Outcome ℕ ℕ
left_by value body =
    outcome (parts nothing_known) (counting value) (code_of nothing_known (λ handle. false) []) 1 body
    (record { state = 0; values = λ handle. value })

-- a body of one plain statement
abbrev pub one_statement : Statement → Tree
one_statement what = push empty (plain what) undefined

-- a body that kills the invocation if this condition holds
abbrev pub kills_if : (condition : ℕ) → Tree
kills_if condition = push empty (branch condition (push empty (jump kill) undefined) empty) undefined

-- ---- numbers of 32 bits, and one variable

-- the value of a few expressions, where the variable has this value
abbrev pub number_of : Option (ExpressionForm × List (Option ℕ)) → List ℕ → (variable : ℕ) → ℕ
number_of (Some (of_expression (expression.Literal (literal.U32 number)), names)) values variable = number
number_of (Some (of_expression (expression.Load pointer), names)) values variable = variable
number_of (Some (of_expression (expression.Binary operator.Add left right), names)) (x ∷ y ∷ []) variable = (x + y) % 2 ^ 32
number_of (Some (of_expression (expression.Binary operator.Less left right), names)) (x ∷ y ∷ []) variable = if nat_lt x y then 1 else 0
number_of _ values variable = 0

-- the new value of the variable and the result of a few statements; the first value that they use is the pointer
abbrev pub changed_by : StatementForm × List (Option ℕ) → List ℕ → (variable : ℕ) → ℕ × ℕ
changed_by (of_statement (statement.Store pointer value), names) (address ∷ x ∷ []) variable = (x, 0)
changed_by (of_statement (statement.Atomic pointer atomic.Add value result), names) (address ∷ x ∷ []) variable = ((variable + x) % 2 ^ 32, variable)
changed_by _ values variable = (variable, 0)

-- the interpretation by numbers of 32 bits
abbrev pub numbers : Meanings ℕ ℕ ℕ
numbers = record {
  compute = number_of;
  perform = changed_by;
  stop = λ action values state. None;
  decide = λ value. value;
  choose = λ number cases. case_of (U32 number) cases;
  enter = λ inits state. state;
}

-- an arena of these expressions
abbrev pub arena_of : List Expression → List (Expression × Span)
arena_of [] = []
arena_of (first ∷ rest) = (first, undefined) ∷ arena_of rest

-- a block of these statements
abbrev pub block_of : Tree → List Node → Tree
block_of front [] = front
block_of front (first ∷ rest) = block_of (push front first undefined) rest

-- the outcome of a body, from this value of the variable, where each loop makes at most four turns
abbrev pub computed : List Expression → Tree → (variable : ℕ) → Outcome ℕ ℕ
computed expressions body variable =
    outcome (parts nothing_known) numbers (code_of nothing_known (chains_in (arena_of expressions)) (arena_of expressions)) 4 body
    (record { state = variable; values = λ handle. 0 })

-- the handles after this expression is dropped
abbrev pub without : (dropped : ℕ) → ℕ → ℕ
without dropped handle = if nat_lt dropped handle then pred handle else handle

-- the body after this expression is dropped
abbrev pub body_without : (dropped : ℕ) → Tree → Tree
body_without dropped = rename_tree (of_expressions (without dropped))

-- ---- a branch

-- if the variable is below 5, the body subtracts one from it and returns, and else it sets it to the greatest number
abbrev pub branching : Tree
branching =
    block_of empty
    (plain (statement.Emit (3, 7))
    ∷ branch 4
    (block_of empty (plain (statement.Store 0 6) ∷ jump (return None) ∷ plain (statement.Store 0 1) ∷ []))
    (block_of empty (plain (statement.Store 0 2) ∷ []))
    ∷ [])

-- its expressions, of which nothing needs the one at 5
abbrev pub branching_expressions : List Expression
branching_expressions =
    expression.GlobalVariable 0
    ∷ expression.Literal (literal.U32 5)
    ∷ expression.Literal (literal.U32 (2 ^ 32 - 1))
    ∷ expression.Load 0
    ∷ expression.Binary operator.Less 3 1
    ∷ expression.Binary operator.Add 3 3
    ∷ expression.Binary operator.Add 3 2
    ∷ []

-- the expressions after it is dropped
abbrev pub compacted_branching_expressions : List Expression
compacted_branching_expressions =
    expression.GlobalVariable 0
    ∷ expression.Literal (literal.U32 5)
    ∷ expression.Literal (literal.U32 (2 ^ 32 - 1))
    ∷ expression.Load 0
    ∷ expression.Binary operator.Less 3 1
    ∷ expression.Binary operator.Add 3 2
    ∷ []

-- ---- a loop

-- the body adds one to the variable until the value before was above 4, and returns the variable
abbrev pub looping : Tree
looping =
    block_of empty
    (loop
    (block_of empty (plain (statement.Atomic 0 atomic.Add 1 (Some 3)) ∷ []))
    (block_of empty (plain (statement.Emit (4, 6)) ∷ []))
    (Some 5)
    ∷ plain (statement.Emit (6, 7))
    ∷ jump (return (Some 6))
    ∷ plain (statement.Store 0 1)
    ∷ [])

-- its expressions, of which nothing needs the one at 4
abbrev pub looping_expressions : List Expression
looping_expressions =
    expression.GlobalVariable 0
    ∷ expression.Literal (literal.U32 1)
    ∷ expression.Literal (literal.U32 4)
    ∷ expression.AtomicResult 0 false
    ∷ expression.Binary operator.Add 3 1
    ∷ expression.Binary operator.Less 2 3
    ∷ expression.Load 0
    ∷ []

-- the expressions after it is dropped
abbrev pub compacted_looping_expressions : List Expression
compacted_looping_expressions =
    expression.GlobalVariable 0
    ∷ expression.Literal (literal.U32 1)
    ∷ expression.Literal (literal.U32 4)
    ∷ expression.AtomicResult 0 false
    ∷ expression.Binary operator.Less 2 3
    ∷ expression.Load 0
    ∷ []

-- ---- a switch

-- the cases with these values, of which each stores the number of its expression and does not fall through
abbrev pub storing : List (SwitchValue × ℕ) → Cases
storing [] = no_cases
storing ((value, number) ∷ rest) = case value (one_statement (statement.Store 0 number)) false (storing rest)

-- the variable, its value, and three numbers
abbrev pub switching_expressions : List Expression
switching_expressions =
    expression.GlobalVariable 0
    ∷ expression.Load 0
    ∷ expression.Literal (literal.U32 10)
    ∷ expression.Literal (literal.U32 20)
    ∷ expression.Literal (literal.U32 30)
    ∷ []

-- the expression of the number 10
abbrev pub ten : ℕ
ten = 2

-- the expression of the number 20
abbrev pub twenty : ℕ
twenty = 3

-- the expression of the number 30
abbrev pub thirty : ℕ
thirty = 4

-- what the variable holds after a switch on it with these cases
abbrev pub switched : List (SwitchValue × ℕ) → (variable : ℕ) → ℕ
switched cases variable =
    (computed switching_expressions (block_of empty (plain (statement.Emit (1, 2)) ∷ switch 1 (storing cases) ∷ [])) variable).state

-- ---- calls

-- a function's handle represents its number plus one, and each other handle represents 0
abbrev pub numbered : Reference → ℕ
numbered (reference.Function handle) = suc handle
numbered _ = 0

-- a function without local variables that has these expressions and this body
abbrev pub function_of : List Expression → Tree → Reading
function_of expressions body = record {
  expressions = arena_of expressions;
  local_variables = [];
  body = body;
  at_use = chains_in (arena_of expressions);
}

-- the only function of the module is this one
abbrev pub only : Reading → (thing : ℕ) → Option Reading
only function thing = if nat_eq thing 1 then Some function else None

-- the functions share the variable, and the result of a call is the value that was returned, or 0
abbrev pub sharing : Calls ℕ ℕ ℕ
sharing = record {
  begin = λ function values variable. (variable, 0);
  finish = λ outcome variable. (outcome.state, unwrap_or outcome.returned 0);
}

-- the outcome of a caller of this function, from this value of the variable, with calls down to this depth
abbrev pub calling : (callee : Reading) → (depth : ℕ) → (caller : Reading) → (variable : ℕ) → Outcome ℕ ℕ
calling callee depth caller variable =
    meaning numbered (called numbered (only callee) sharing numbers 4 depth) 4 caller (blank (variable, 0))

-- the function calls the other one, stores twice the result and returns the result
abbrev pub caller : (arguments : Vec ℕ Global) → Reading
caller arguments =
    function_of (expression.GlobalVariable 0 ∷ expression.CallResult 0 ∷ expression.Binary operator.Add 1 1 ∷ [])
    (block_of empty
    (plain (statement.Call 0 arguments (Some 1))
    ∷ plain (statement.Emit (2, 3))
    ∷ plain (statement.Store 0 2)
    ∷ jump (return (Some 1))
    ∷ []))

-- the variable, the number 1, the value of the variable, and their sum
abbrev pub sum_of_variable : List Expression
sum_of_variable =
    expression.GlobalVariable 0
    ∷ expression.Literal (literal.U32 1)
    ∷ expression.Load 0
    ∷ expression.Binary operator.Add 2 1
    ∷ []

-- the function adds 1 to the variable and ends like this
abbrev pub adding : List Node → Reading
adding last = function_of sum_of_variable (block_of empty (plain (statement.Emit (2, 4)) ∷ plain (statement.Store 0 3) ∷ last))

-- the function adds 1 to the variable, calls the function of the module, and returns what the variable was then
abbrev pub adding_and_calling : (arguments : Vec ℕ Global) → Reading
adding_and_calling arguments = adding (plain (statement.Call 0 arguments None) ∷ jump (return (Some 3)) ∷ [])

-- the same function, closed by the rule
abbrev pub closed_function : Rule → Reading → Reading
closed_function rule function = record function { body = closed rule function.body }

-- a loop without an end
abbrev pub endless : Node
endless = loop empty empty None

-- ---- two global variables

-- each handle of a global variable represents a place of its own
abbrev pub apart : Reference → ℕ
apart (reference.GlobalVariable handle) = handle
apart _ = 0

-- the value of a few expressions, by the memory of the two places
abbrev pub value_in : Option (ExpressionForm × List (Option ℕ)) → List ℕ → (memory : ℕ × ℕ) → ℕ
value_in (Some (of_expression (expression.Literal (literal.U32 number)), names)) values memory = number
value_in (Some (of_expression (expression.GlobalVariable variable), Some place ∷ names)) values memory = place
value_in (Some (of_expression (expression.Load pointer), names)) (place ∷ []) memory = if nat_eq place 0 then memory.0 else memory.1
value_in _ values memory = 0

-- the memory after a store, and 0
abbrev pub stored_by : StatementForm × List (Option ℕ) → List ℕ → (memory : ℕ × ℕ) → (ℕ × ℕ) × ℕ
stored_by (of_statement (statement.Store pointer value), names) (place ∷ x ∷ []) memory =
    (if nat_eq place 0 then (x, memory.1) else (memory.0, x), 0)
stored_by _ values memory = (memory, 0)

-- the interpretation by two places
abbrev pub places : Meanings ℕ ℕ (ℕ × ℕ)
places = record {
  compute = value_in;
  perform = stored_by;
  stop = λ action values memory. None;
  decide = λ value. value;
  choose = λ value cases. case_of (U32 value) cases;
  enter = λ inits memory. memory;
}

-- the function stores 5 in the first global variable and returns the second
abbrev pub two_variables : Reading
two_variables =
    function_of
    (expression.GlobalVariable 0 ∷ expression.GlobalVariable 1 ∷ expression.Literal (literal.U32 5) ∷ expression.Load 1 ∷ [])
    (block_of empty (plain (statement.Store 0 2) ∷ plain (statement.Emit (3, 4)) ∷ jump (return (Some 3)) ∷ []))

-- its outcome from this memory, if handles represent this
abbrev pub stored_apart : (look : Reference → ℕ) → (memory : ℕ × ℕ) → Outcome ℕ (ℕ × ℕ)
stored_apart look memory = meaning look places 1 two_variables (blank (memory, 0))
