-- The meaning of a block: a tree of its statements, each with its span, including those in nested blocks. The spare
-- capacity of blocks is not part of it. That of the arguments of a `Call` is, as part of the value of the statement. A
-- block grows at its end, so the last statement is the first to be taken off a tree.
--
-- A statement is plain, a nested block, a branch, a switch, a loop, or a jump: a break, a continue, a kill, or a return
-- with its value. The cases of a switch are a type of their own, and not a list, since antt has no recursion through
-- lists.
use Rattle.std.specs.Prelude.{ℕ, Bool, true, false, Option}
use Rattle.naga_arena.specs.declared.span.Span.{Span}
use Rattle.naga_kinds.specs.declared.switch.SwitchValue.{SwitchValue}
use Rattle.naga_ir.specs.declared.statement.Statement.{Statement}

-- a jump, which ends the run of a block
pub data Jump : Type 0 where
  break continue kill : Jump
  return : (value : Option ℕ) → Jump

mutual
  -- statements in order, each with its span
  pub data Tree : Type 0 where
    empty : Tree
    push : (front : Tree) (last : Node) (span : Span) → Tree

  -- one statement; a plain statement contains no block and does not end a run
  pub data Node : Type 0 where
    plain : (what : Statement) → Node
    nested : (inner : Tree) → Node
    branch : (condition : ℕ) (accept reject : Tree) → Node
    switch : (selector : ℕ) (cases : Cases) → Node
    loop : (body continuing : Tree) (break_if : Option ℕ) → Node
    jump : (to : Jump) → Node

  -- the cases of a switch, from first to last
  pub data Cases : Type 0 where
    no_cases : Cases
    case : (value : SwitchValue) (body : Tree) (falls_through : Bool) (others : Cases) → Cases

-- control passes through the statement: it contains no block and does not jump
abbrev pub is_plain : Node → Bool
is_plain (plain what) = true
is_plain node = false
