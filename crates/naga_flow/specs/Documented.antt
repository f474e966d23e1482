-- What would be checked if a continuing block inherited all that the body of the loop evaluates, as naga documents it, and
-- a body for which this is wrong.
use Rattle.std.specs.Prelude.{⊤, ℕ, List, [], ◌∷◌, ◌++◌, Some, None, option_to_list, if◌then◌else◌, nat_eq}
use Rattle.naga_arena.specs.Span.{undefined}
use Rattle.naga_ir.specs.Tree.{Tree, empty, push, Node, plain, nested, branch, switch, loop, jump, continue, Cases, no_cases, case}
use Rattle.naga_ir.specs.declared.statement.Statement.{Emit, Store}
use Rattle.naga_flow.specs.Uses.{Expressions, JumpUsesKnown, MayUse, MayUseEach, PlainUsesKnown, values_of}
use Rattle.naga_flow.specs.declared.evaluation.Evaluation.TheVariants as by

module _ (expressions : Expressions) where
  abbrev mutual
    -- as `UsesKnown`, with what the whole body of a loop evaluates known in the continuing block
    pub UsesDocumented : (known : List ℕ) → Tree → Type 0
    UsesDocumented known empty = ⊤
    UsesDocumented known (push front last span) = UsesDocumented known front × NodeUsesDocumented (values_of front ++ known) last

    pub NodeUsesDocumented : (known : List ℕ) → Node → Type 0
    NodeUsesDocumented known (plain what) = PlainUsesKnown expressions known what
    NodeUsesDocumented known (nested inner) = UsesDocumented known inner
    NodeUsesDocumented known (branch condition accept reject) =
        MayUse expressions known condition × UsesDocumented known accept × UsesDocumented known reject
    NodeUsesDocumented known (switch selector cases) = MayUse expressions known selector × CasesUseDocumented known cases
    NodeUsesDocumented known (loop body continuing break_if) =
        UsesDocumented known body × UsesDocumented (values_of body ++ known) continuing
        × MayUseEach expressions (values_of continuing ++ (values_of body ++ known)) (option_to_list break_if)
    NodeUsesDocumented known (jump to) = JumpUsesKnown expressions known to

    pub CasesUseDocumented : (known : List ℕ) → Cases → Type 0
    CasesUseDocumented known no_cases = ⊤
    CasesUseDocumented known (case value body falls_through others) = UsesDocumented known body × CasesUseDocumented known others

-- expression 0 is ready, the others are evaluated by an `Emit` and have no operands, and none is a place
abbrev pub only_first_ready : Expressions
only_first_ready = record {
  evaluation = λ handle. if nat_eq handle 0 then Some by.Ready else Some by.Emit;
  operands = λ handle. [];
  reads = λ handle. handle ∷ [];
}

-- loop { if [0] { continue; } emit [1]; continuing { store [0] [1]; } }
abbrev pub skips_an_emit : Tree
skips_an_emit =
    push empty
    (loop
    (push (push empty (branch 0 (push empty (jump continue) undefined) empty) undefined) (plain (Emit (1, 2))) undefined)
    (push empty (plain (Store 0 1)) undefined)
    None)
    undefined
