-- The scope of an expression that a statement evaluates, as naga has it: what follows the statement in its block, with
-- the blocks inside that. What the body of a loop evaluates is in scope in the continuing block too, even if a
-- `Continue` may skip it. No expression is evaluated again in its scope.
use Rattle.std.specs.Prelude.{⊤, ℕ, List, [], ◌∷◌, ◌++◌}
use Rattle.std.specs.List.{Contains}
use Rattle.naga_ir.specs.Tree.{Tree, empty, push, Node, plain, nested, branch, switch, loop, jump, Cases, no_cases, case}
use Rattle.naga_flow.specs.Results.{evaluated_by}
use Rattle.naga_flow.specs.Uses.{CasesUseKnown, Expressions, NodeUsesKnown, UsesKnown, values_of}

-- these expressions are evaluated one after another, each of them while it is not in scope
abbrev pub AreNew : (scope : List ℕ) → List ℕ → Type 0
AreNew scope [] = ⊤
AreNew scope (handle ∷ rest) = ¬ Contains scope handle × AreNew (handle ∷ scope) rest

abbrev mutual
  -- no statement of the block evaluates what is in scope there, if these are in scope before the block
  pub EvaluatedOnce : (scope : List ℕ) → Tree → Type 0
  EvaluatedOnce scope empty = ⊤
  EvaluatedOnce scope (push front last span) = EvaluatedOnce scope front × NodeEvaluatedOnce (values_of front ++ scope) last

  -- the same for a statement
  pub NodeEvaluatedOnce : (scope : List ℕ) → Node → Type 0
  NodeEvaluatedOnce scope (plain what) = AreNew scope (evaluated_by what)
  NodeEvaluatedOnce scope (nested inner) = EvaluatedOnce scope inner
  NodeEvaluatedOnce scope (branch condition accept reject) = EvaluatedOnce scope accept × EvaluatedOnce scope reject
  NodeEvaluatedOnce scope (switch selector cases) = CasesEvaluatedOnce scope cases
  NodeEvaluatedOnce scope (loop body continuing break_if) =
      EvaluatedOnce scope body × EvaluatedOnce (values_of body ++ scope) continuing
  NodeEvaluatedOnce scope (jump to) = ⊤

  -- the same for the cases of a switch
  pub CasesEvaluatedOnce : (scope : List ℕ) → Cases → Type 0
  CasesEvaluatedOnce scope no_cases = ⊤
  CasesEvaluatedOnce scope (case value body falls_through others) = EvaluatedOnce scope body × CasesEvaluatedOnce scope others

-- whatever the block uses has a value, and it evaluates nothing again in its scope, if these have been evaluated before
-- and these are in scope
abbrev pub BlockPasses : Expressions → (known scope : List ℕ) → Tree → Type 0
BlockPasses expressions known scope block = UsesKnown expressions known block × EvaluatedOnce scope block

-- the same for a statement
abbrev pub NodePasses : Expressions → (known scope : List ℕ) → Node → Type 0
NodePasses expressions known scope node = NodeUsesKnown expressions known node × NodeEvaluatedOnce scope node

-- the same for the cases of a switch
abbrev pub CasesPass : Expressions → (known scope : List ℕ) → Cases → Type 0
CasesPass expressions known scope cases = CasesUseKnown expressions known cases × CasesEvaluatedOnce scope cases
