-- Statements and blocks without the spare capacities of their lists.
use Rattle.std.specs.Prelude.{ℕ, List, [], ◌∷◌, Bool, Option}
use Rattle.naga_arena.specs.declared.span.Span.{Span}
use Rattle.naga_kinds.specs.declared.switch.SwitchValue.{SwitchValue}
use Rattle.naga_ir.specs.declared.block.Block.{Block}
use Rattle.naga_ir.specs.declared.statement.Statement.{Statement}
use Rattle.naga_ir.specs.declared.statement.Statement.TheVariants.{Call}
use Rattle.naga_ir.specs.declared.statement.SwitchCase.{SwitchCase}
use Rattle.naga_ir.specs.Tree as tree
use Rattle.naga_ir.specs.Tree.{Tree, Node, Cases, Jump}
use Rattle.naga_ir.specs.View.{node_of, tree_of}

mutual
  -- statements in order, each with its span
  pub data BlockValue : Type 0 where
    empty : BlockValue
    push : (front : BlockValue) (last : StatementValue) (span : Span) → BlockValue

  -- one statement; a plain statement is no call, contains no block and does not jump
  pub data StatementValue : Type 0 where
    plain : (what : Statement) → StatementValue
    call : (function : ℕ) (arguments : List ℕ) (result : Option ℕ) → StatementValue
    nested : (inner : BlockValue) → StatementValue
    branch : (condition : ℕ) (accept reject : BlockValue) → StatementValue
    switch : (selector : ℕ) (cases : CasesValue) → StatementValue
    loop : (body continuing : BlockValue) (break_if : Option ℕ) → StatementValue
    jump : (to : Jump) → StatementValue

  -- the cases of a switch, from first to last
  pub data CasesValue : Type 0 where
    no_cases : CasesValue
    case : (value : SwitchValue) (body : BlockValue) (falls_through : Bool) (others : CasesValue) → CasesValue

-- the value of a statement that contains no block and does not jump
abbrev pub plain_value : Statement → StatementValue
plain_value (Call function arguments result) = call function arguments.items result
plain_value what = plain what

abbrev mutual
  pub block_value : Tree → BlockValue
  block_value tree.empty = empty
  block_value (tree.push front last span) = push (block_value front) (node_value last) span

  pub node_value : Node → StatementValue
  node_value (tree.plain what) = plain_value what
  node_value (tree.nested inner) = nested (block_value inner)
  node_value (tree.branch condition accept reject) = branch condition (block_value accept) (block_value reject)
  node_value (tree.switch selector cases) = switch selector (cases_value cases)
  node_value (tree.loop body continuing break_if) = loop (block_value body) (block_value continuing) break_if
  node_value (tree.jump to) = jump to

  pub cases_value : Cases → CasesValue
  cases_value tree.no_cases = no_cases
  cases_value (tree.case value body falls_through others) =
      case value (block_value body) falls_through (cases_value others)

-- the value of a statement
abbrev pub value_of_statement : Statement → StatementValue
value_of_statement statement = node_value (node_of statement)

-- the value of a block
abbrev pub value_of_block : Block → BlockValue
value_of_block block = block_value (tree_of block)

-- the value, the body and the fall-through of a case
abbrev pub CaseValue : Type 0
CaseValue = SwitchValue × BlockValue × Bool

-- the value of a case
abbrev pub value_of_case : SwitchCase → CaseValue
value_of_case one = (one.value, value_of_block one.body, one.fall_through)

-- the cases of a list
abbrev pub cases_from : List CaseValue → CasesValue
cases_from [] = no_cases
cases_from (first ∷ rest) = case first.0 first.1 first.2 (cases_from rest)

-- the cases, as a list
abbrev pub cases_of : CasesValue → List CaseValue
cases_of no_cases = []
cases_of (case value body falls_through others) = (value, body, falls_through) ∷ cases_of others
