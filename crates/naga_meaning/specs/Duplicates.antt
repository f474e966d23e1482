-- Small bodies in which expressions have duplicates, and what they return.
use Rattle.std.specs.Prelude.{ℕ, List, [], ◌∷◌, Option, Some, if◌then◌else◌, nat_eq}
use Rattle.naga_kinds.specs.declared.operator.BinaryOperator.TheVariants as operator
use Rattle.naga_ir.specs.Tree.{Tree, empty, Node, plain, branch, jump, return}
use Rattle.naga_ir.specs.declared.expression.Expression.{Expression}
use Rattle.naga_ir.specs.declared.expression.Expression.TheVariants as expression
use Rattle.naga_ir.specs.declared.literal.Literal.TheVariants as literal
use Rattle.naga_ir.specs.declared.statement.Statement as statement
use Rattle.naga_compact.specs.Renaming.Blocks.{rename_tree}
use Rattle.naga_meaning.specs.Examples.{block_of, computed}
use Rattle.naga_meaning.specs.Redirecting.{redirecting}

-- a variable, the number 1, the value of the variable, its sum with 1, and both of these once more
abbrev pub doubled_expressions : List Expression
doubled_expressions =
    expression.GlobalVariable 0
    ∷ expression.Literal (literal.U32 1)
    ∷ expression.Load 0
    ∷ expression.Binary operator.Add 2 1
    ∷ expression.Load 0
    ∷ expression.Binary operator.Add 2 1
    ∷ []

-- uses of the second load and of the second sum become uses of the first ones
abbrev pub to_first : ℕ → ℕ
to_first handle = if nat_eq handle 4 then 2 else if nat_eq handle 5 then 3 else handle

-- the body evaluates the first load and the first sum, sets the variable to 1, executes these statements, evaluates the
-- second load and the second sum, and returns this value
abbrev pub evaluating_twice : List Node → (value : ℕ) → Tree
evaluating_twice between value =
    block_of (block_of (block_of empty (plain (statement.Emit (2, 4)) ∷ plain (statement.Store 0 1) ∷ [])) between)
    (plain (statement.Emit (4, 6)) ∷ jump (return (Some value)) ∷ [])

-- the body returns the second sum
abbrev pub adding_twice : Tree
adding_twice = evaluating_twice [] 5

-- the same, if the load to which 1 is added is evaluated again between
abbrev pub adding_again : Tree
adding_again = evaluating_twice (plain (statement.Emit (2, 3)) ∷ []) 5

-- the body evaluates the first sum only in a branch that is not taken, and returns the second sum
abbrev pub adding_elsewhere : Tree
adding_elsewhere =
    block_of empty
    (plain (statement.Emit (2, 3))
    ∷ branch 0 (block_of empty (plain (statement.Emit (3, 4)) ∷ [])) empty
    ∷ plain (statement.Emit (5, 6))
    ∷ jump (return (Some 5))
    ∷ [])

-- the body returns the second load
abbrev pub loading_twice : Tree
loading_twice = evaluating_twice [] 4

-- the body with uses redirected to the first ones
abbrev pub redirected : Tree → Tree
redirected = rename_tree (redirecting to_first)

-- what the body returns if the variable is 7 before
abbrev pub returned_by : Tree → Option ℕ
returned_by body = (computed doubled_expressions body 7).returned

-- what it returns with uses redirected
abbrev pub returned_after : Tree → Option ℕ
returned_after body = returned_by (redirected body)
