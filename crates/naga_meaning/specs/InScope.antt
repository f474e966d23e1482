-- Properties of the statements of a block that depend on what is known there: what has been evaluated before, in the
-- block or around it, as the check of uses has it.
use Rattle.std.specs.Prelude.{◌≡◌, ⊤, ℕ, true, List, [], ◌++◌}
use Rattle.naga_ir.specs.Tree.{Tree, empty, push, Node, plain, nested, branch, switch, loop, jump, Cases, no_cases, case}
use Rattle.naga_ir.specs.declared.statement.Statement.{Statement}
use Rattle.naga_flow.specs.Results.{evaluated_by}
use Rattle.naga_flow.specs.Scopes.{AreNew}
use Rattle.naga_flow.specs.Uses.{certain, values_of}
use Rattle.naga_flow.specs.Ways.{may_go_on, ways_of}
use Rattle.naga_meaning.specs.Machine.{IfAny, JumpIsIn}

module _ (P : (known : List ℕ) → Statement → Type 0) (Q : (known : List ℕ) → ℕ → Type 0) where
  abbrev mutual
    -- Each plain statement of the block is in `P`, and each condition, selector and returned value is in `Q`, for what
    -- is known there, if these are known before the block. If control never goes on after the body of a loop, nothing
    -- is required of its continuing block and break condition.
    pub InScope : (known : List ℕ) → Tree → Type 0
    InScope known empty = ⊤
    InScope known (push front last span) = InScope known front × NodeInScope (values_of front ++ known) last

    -- the same for a statement
    pub NodeInScope : (known : List ℕ) → Node → Type 0
    NodeInScope known (plain what) = P known what
    NodeInScope known (nested inner) = InScope known inner
    NodeInScope known (branch condition accept reject) = Q known condition × InScope known accept × InScope known reject
    NodeInScope known (switch selector cases) = Q known selector × CasesInScope known cases
    NodeInScope known (loop body continuing break_if) =
        InScope known body
        × (may_go_on (ways_of body) ≡ true → InScope (values_of (certain body) ++ known) continuing
        × IfAny (Q (values_of (certain continuing) ++ (values_of (certain body) ++ known))) break_if)
    NodeInScope known (jump to) = JumpIsIn (P known) (Q known) to

    -- the same for the cases of a switch
    pub CasesInScope : (known : List ℕ) → Cases → Type 0
    CasesInScope known no_cases = ⊤
    CasesInScope known (case value body falls_through others) = InScope known body × CasesInScope known others

-- no statement evaluates an expression that is known there
abbrev pub EvaluatesNew : Tree → Type 0
EvaluatesNew block = InScope (λ known what. AreNew known (evaluated_by what)) (λ known handle. ⊤) [] block
