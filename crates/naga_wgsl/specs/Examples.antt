-- Small bodies of which expressions are evaluated where they are used, and what they return.
use Rattle.std.specs.Prelude.{ℕ, Bool, false, true, List, [], ◌∷◌, Option, None, Some, ◌||◌, nat_eq, nat_lt}
use Rattle.naga_kinds.specs.declared.operator.BinaryOperator.TheVariants as operator
use Rattle.naga_kinds.specs.declared.switch.SwitchValue.TheVariants as switch_value
use Rattle.naga_ir.specs.Tree.{Tree, empty, Node, plain, nested, branch, switch, loop, jump, break, continue, kill, return, no_cases, case}
use Rattle.naga_ir.specs.declared.expression.AtomicFunction.TheVariants as atomic
use Rattle.naga_ir.specs.declared.expression.Expression.{Expression}
use Rattle.naga_ir.specs.declared.expression.Expression.TheVariants as expression
use Rattle.naga_ir.specs.declared.literal.Literal.TheVariants as literal
use Rattle.naga_ir.specs.declared.statement.Statement as statement
use Rattle.naga_meaning.specs.Examples.{arena_of, block_of, nothing_known, numbers}
use Rattle.naga_meaning.specs.Functions.{code_of, parts}
use Rattle.naga_meaning.specs.Machine.{Done}
use Rattle.naga_meaning.specs.Values.{Outcome, outcome}
use Rattle.naga_wgsl.specs.Inlining.{skipping, with_inline}
use Rattle.naga_wgsl.specs.Lowering.{text_of_reading}
use Rattle.naga_wgsl.specs.Scopes.{Scope, text_does}

-- a variable, the number 1, the value of the variable, its sum with 1, whether this is above the number 5, that number,
-- and the result of an atomic operation
abbrev pub expressions : List Expression
expressions =
    expression.GlobalVariable 0
    ∷ expression.Literal (literal.U32 1)
    ∷ expression.Load 0
    ∷ expression.Binary operator.Add 2 1
    ∷ expression.Literal (literal.U32 5)
    ∷ expression.Binary operator.Less 4 3
    ∷ expression.AtomicResult 0 false
    ∷ []

-- these are evaluated where they are used in each reading
abbrev pub ready : ℕ → Bool
ready handle = nat_lt handle 2 || nat_eq handle 4

-- one of these handles is it
abbrev pub is_one_of : List ℕ → ℕ → Bool
is_one_of [] handle = false
is_one_of (first ∷ rest) handle = nat_eq handle first || is_one_of rest handle

-- what is left of the body where the variable is 7, or another number, and these are evaluated where they are used: no
-- `Emit` evaluates them
abbrev pub left_from : (variable : ℕ) → (at_use inline : List ℕ) → Tree → Outcome ℕ ℕ
left_from variable at_use inline body =
    let written : ℕ → Bool = with_inline (with_inline ready (is_one_of at_use)) (is_one_of inline) in
    outcome (skipping written (parts nothing_known)) numbers (code_of nothing_known written (arena_of expressions)) 4 body
    (record { state = variable; values = λ handle. 0 })

-- the value that the body returns, where the variable is 7
abbrev pub returned_with : (at_use inline : List ℕ) → Tree → Option ℕ
returned_with at_use inline body = (left_from 7 at_use inline body).returned

-- the body evaluates the value of the variable and its sum with 1, sets the variable to 1, executes these statements, and
-- returns a value
abbrev pub storing_between : List Node → (value : ℕ) → Tree
storing_between others value =
    block_of (block_of (block_of empty (plain (statement.Emit (2, 4)) ∷ plain (statement.Store 0 1) ∷ [])) others) (jump (return (Some value)) ∷ [])

-- the body returns a sum that it evaluates only in a branch that is not taken
abbrev pub evaluated_elsewhere : Tree
evaluated_elsewhere = block_of empty (branch 6 (block_of empty (plain (statement.Emit (2, 4)) ∷ [])) empty ∷ jump (return (Some 3)) ∷ [])

-- the body returns the value of the variable before it adds one to it
abbrev pub adding : Tree
adding = block_of empty (plain (statement.Atomic 0 atomic.Add 1 (Some 6)) ∷ jump (return (Some 6)) ∷ [])

-- the body adds one to the variable until the sum, which the continuing block and the break condition read, is above 5
abbrev pub counting_up : Tree
counting_up =
    block_of empty
    (loop (block_of empty (plain (statement.Emit (2, 4)) ∷ plain (statement.Store 0 3) ∷ []))
    (block_of empty (plain (statement.Emit (5, 6)) ∷ []))
    (Some 5)
    ∷ jump (return None)
    ∷ [])

-- the body evaluates the value of the variable, sets the variable to 1, evaluates this value again in a branch that is
-- taken, and returns it
abbrev pub evaluated_again_inside : Tree
evaluated_again_inside =
    block_of empty
    (plain (statement.Emit (2, 3))
    ∷ plain (statement.Store 0 1)
    ∷ branch 1 (block_of empty (plain (statement.Emit (2, 3)) ∷ [])) empty
    ∷ jump (return (Some 2))
    ∷ [])

-- the body sets the variable to this value
abbrev pub storing : (value : ℕ) → Tree
storing value = block_of empty (plain (statement.Store 0 value) ∷ [])

-- the body sets the variable to 5 if the condition holds, and else to 1
abbrev pub branching : (condition : ℕ) → Tree
branching condition = block_of empty (branch condition (storing 4) (storing 1) ∷ [])

-- the body enters a case that sets the variable to 5 and falls through to one that adds one to it
abbrev pub switching : Tree
switching =
    block_of empty
    (switch 1
    (case (switch_value.U32 5) (storing 1) false
    (case (switch_value.U32 1) (storing 4) true (case switch_value.Default adding false no_cases)))
    ∷ [])

-- the body goes on with the continuing block of a loop, which sets the variable to 5
abbrev pub continuing_at_once : Tree
continuing_at_once = block_of empty (loop (block_of empty (jump continue ∷ [])) (storing 4) (Some 1) ∷ [])

-- the body leaves a loop before it would set the variable to 5
abbrev pub breaking_at_once : Tree
breaking_at_once = block_of empty (loop (block_of empty (jump break ∷ plain (statement.Store 0 4) ∷ [])) (storing 4) None ∷ [])

-- the body sets the variable to 5 and kills the invocation, in a block of its own
abbrev pub killing : Tree
killing = block_of empty (nested (block_of (storing 4) (jump kill ∷ [])) ∷ plain (statement.Store 0 1) ∷ [])

-- ---- their texts

-- what the text of the body leaves, where the variable has this value and these are inline
abbrev pub text_left : (variable : ℕ) → (inline : List ℕ) → Tree → Done (Scope ℕ ℕ ℕ)
text_left variable inline body =
    text_does nat_eq numbers 4
    (text_of_reading (λ x. x) nothing_known
    (record { expressions = arena_of expressions; local_variables = []; body = body; at_use = with_inline ready (is_one_of inline) }))
    (λ name. 0) variable

-- the value that the text of the body returns, where the variable is 7
abbrev pub text_returned : (inline : List ℕ) → Tree → Option ℕ
text_returned inline body = (text_left 7 inline body).state.returned

-- the value of the variable that the text of the body leaves, if it is 7 before
abbrev pub text_stored : Tree → ℕ
text_stored body = (text_left 7 [] body).state.state
