-- The number of statements of a block, and of its tail blocks that get a return.
use Rattle.std.specs.Prelude.{ℕ, ◌+◌, Bool, true, false}
use Rattle.naga_ir.specs.Tree.{Tree, empty, push, Node, plain, nested, branch, switch, loop, jump, Cases, no_cases, case}
use Rattle.naga_ir.specs.View.{tree_of}
use Rattle.naga_ir.specs.declared.statement.SwitchCase.{SwitchCase}
use Rattle.naga_proc.specs.Closing.{follows_switch}
use Rattle.naga_proc.specs.declared.terminator.rule.Rule.{Rule}

abbrev mutual
  -- the number of statements, including those in nested blocks
  pub statement_count : Tree → ℕ
  statement_count empty = 0
  statement_count (push front last span) = statement_count front + (1 + inner_count last)

  -- the number of statements in the blocks of a statement
  pub inner_count : Node → ℕ
  inner_count (plain what) = 0
  inner_count (nested inner) = statement_count inner
  inner_count (branch condition accept reject) = statement_count accept + statement_count reject
  inner_count (switch selector cases) = count_in_cases cases
  inner_count (loop body continuing break_if) = statement_count body + statement_count continuing
  inner_count (jump to) = 0

  -- the number of statements in the bodies of cases
  pub count_in_cases : Cases → ℕ
  count_in_cases no_cases = 0
  count_in_cases (case value body falls_through others) = statement_count body + count_in_cases others

-- 1 if the test is true, and otherwise 0
abbrev pub one_if : Bool → ℕ
one_if true = 1
one_if false = 0

-- the number, or 0 if the case falls through
abbrev pub open_unless : (falls_through : Bool) → ℕ → ℕ
open_unless true number = 0
open_unless false number = number

abbrev mutual
  -- the number of tail blocks that get a return by the rule
  pub open_tails : Rule → Tree → ℕ
  open_tails rule empty = 1
  open_tails rule (push front last span) = open_at rule last

  -- this number for a block that ends in the statement
  pub open_at : Rule → Node → ℕ
  open_at rule (plain what) = 1
  open_at rule (nested inner) = open_tails rule inner
  open_at rule (branch condition accept reject) = open_tails rule accept + open_tails rule reject
  open_at rule (switch selector cases) = open_in_cases rule cases + one_if (follows_switch rule cases)
  open_at rule (loop body continuing break_if) = 1
  open_at rule (jump to) = 0

  -- this number for the bodies of the cases that do not fall through
  pub open_in_cases : Rule → Cases → ℕ
  open_in_cases rule no_cases = 0
  open_in_cases rule (case value body falls_through others) = open_unless falls_through (open_tails rule body) + open_in_cases rule others

-- this number for the body of a case
abbrev pub open_in_case : Rule → SwitchCase → ℕ
open_in_case rule one = open_unless one.fall_through (open_tails rule (tree_of one.body))
