-- The first statement of a body that refers to something.
use Rattle.std.specs.Prelude.{◌≡◌, ℕ, List, [], ◌∷◌, ◌++◌, All, MatchOption, Option, length}
use Rattle.std.specs.List.{Contains}
use Rattle.std.specs.ControlFlow.{MatchControlFlow}
use Rattle.std.specs.declared.ops.ControlFlow.{ControlFlow}
use Rattle.naga_flow.specs.Jumps.{numbered}
use Rattle.naga_ir.specs.Tree.{Tree, empty, push, Node, plain, nested, branch, switch, loop, jump, Cases, no_cases, case}
use Rattle.naga_valid.specs.Reference.{operands, present}
use Rattle.naga_valid.specs.Statements.{references_of_jump, references_of_statement}
use Rattle.naga_valid.specs.declared.reference.Reference.{Reference}

abbrev mutual
  -- the statements of a block, each before those of its own blocks
  pub statements : Tree → List Node
  statements empty = []
  statements (push front last span) = statements front ++ last ∷ statements_inside last

  pub statements_inside : Node → List Node
  statements_inside (plain what) = []
  statements_inside (nested inner) = statements inner
  statements_inside (branch condition accept reject) = statements accept ++ statements reject
  statements_inside (switch selector cases) = statements_in_cases cases
  statements_inside (loop body continuing break_if) = statements body ++ statements continuing
  statements_inside (jump to) = []

  pub statements_in_cases : Cases → List Node
  statements_in_cases no_cases = []
  statements_in_cases (case value body falls_through others) = statements body ++ statements_in_cases others

-- the handles and the range that a statement contains, without those in its blocks
abbrev pub own_references : Node → List Reference
own_references (plain what) = references_of_statement what
own_references (nested inner) = []
own_references (branch condition accept reject) = operands (condition ∷ [])
own_references (switch selector cases) = operands (selector ∷ [])
own_references (loop body continuing break_if) = present (break_if ∷ [])
own_references (jump to) = references_of_jump to

-- the statement itself refers to this, or has this range
abbrev pub RefersTo : Reference → Node → Type 0
RefersTo to node = Contains (own_references node) to

-- The number is that of the first of these statements that refers to this. So many statements come before all of them.
pub record IsFirstTo (to : Reference) (all : List Node) (met number : ℕ) : Type 0 where
  pub before : List Node
  pub at : Node
  pub after : List Node
  pub split : all ≡ before ++ at ∷ after
  pub earlier : All (λ node. ¬ RefersTo to node) before
  pub refers : RefersTo to at
  pub numbered_so : number ≡ numbered met (length before)

-- a search in these statements, with this many before them: it passes all, or stops at the first that refers to this
abbrev pub Seeks : Reference → List Node → ℕ → ControlFlow ℕ ℕ → Type 0
Seeks to all met answer =
    MatchControlFlow answer (λ next. All (λ node. ¬ RefersTo to node) all × (next ≡ numbered met (length all))) (IsFirstTo to all met)

-- the number of the first statement of the block that refers to this, or none if no statement does
abbrev pub IsStatementTo : Reference → Tree → Option ℕ → Type 0
IsStatementTo to block found =
    MatchOption found (All (λ node. ¬ RefersTo to node) (statements block)) (IsFirstTo to (statements block) 0)
