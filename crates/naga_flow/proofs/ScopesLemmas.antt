-- What is evaluated once where some expressions are in scope is evaluated once where fewer are.
use Rattle.std.proofs.Common.{ℕ, List, [], ◌∷◌, ◌++◌}
use Rattle.naga_ir.specs.Tree.{Tree, empty, push, Node, plain, nested, branch, switch, loop, jump, Cases, no_cases, case}
use Rattle.naga_flow.specs.Results.{evaluated_by}
use Rattle.naga_flow.specs.Scopes.{AreNew, BlockPasses, CasesEvaluatedOnce, EvaluatedOnce, NodeEvaluatedOnce, NodePasses}
use Rattle.naga_flow.specs.Tracking.{AreSame, Includes}
use Rattle.naga_flow.specs.Uses.{Expressions, values_of}
use Rattle.naga_flow.proofs.IncludesLemmas.{Includes-added, Includes-itself, Includes-joined, Includes-shifted_back}
use Rattle.naga_flow.proofs.UsesKnownLemmas.{NodeUsesKnown-more, UsesKnown-more}

pub AreNew-fewer : (more fewer xs : List ℕ) → Includes more fewer → AreNew more xs → AreNew fewer xs
AreNew-fewer more fewer [] h k = tt
AreNew-fewer more fewer (x ∷ xs) h k = (λ c. k.0 (h.each x c), AreNew-fewer (x ∷ more) (x ∷ fewer) xs (Includes-added x fewer more h) k.1)

pub AreNew-append : (scope xs ys : List ℕ) → AreNew scope xs → AreNew (xs ++ scope) ys → AreNew scope (xs ++ ys)
AreNew-append scope [] ys h k = k
AreNew-append scope (x ∷ xs) ys h k =
    (h.0, AreNew-append (x ∷ scope) xs ys h.1 (AreNew-fewer ((x ∷ xs) ++ scope) (xs ++ x ∷ scope) ys (Includes-shifted_back (x ∷ []) xs scope) k))

mutual
  pub EvaluatedOnce-fewer : (more fewer : List ℕ) (block : Tree) → Includes more fewer → EvaluatedOnce more block → EvaluatedOnce fewer block
  EvaluatedOnce-fewer more fewer empty h k = tt
  EvaluatedOnce-fewer more fewer (push front last span) h k = (
    EvaluatedOnce-fewer more fewer front h k.0,
    NodeEvaluatedOnce-fewer (values_of front ++ more) (values_of front ++ fewer) last (Includes-joined (values_of front) (values_of front) fewer more Includes-itself h) k.1,
  )

  pub NodeEvaluatedOnce-fewer : (more fewer : List ℕ) (node : Node) → Includes more fewer → NodeEvaluatedOnce more node → NodeEvaluatedOnce fewer node
  NodeEvaluatedOnce-fewer more fewer (plain what) h k = AreNew-fewer more fewer (evaluated_by what) h k
  NodeEvaluatedOnce-fewer more fewer (nested inner) h k = EvaluatedOnce-fewer more fewer inner h k
  NodeEvaluatedOnce-fewer more fewer (branch condition accept reject) h k = (EvaluatedOnce-fewer more fewer accept h k.0, EvaluatedOnce-fewer more fewer reject h k.1)
  NodeEvaluatedOnce-fewer more fewer (switch selector cases) h k = CasesEvaluatedOnce-fewer more fewer cases h k
  NodeEvaluatedOnce-fewer more fewer (loop body continuing break_if) h k = (
    EvaluatedOnce-fewer more fewer body h k.0,
    EvaluatedOnce-fewer (values_of body ++ more) (values_of body ++ fewer) continuing (Includes-joined (values_of body) (values_of body) fewer more Includes-itself h) k.1,
  )
  NodeEvaluatedOnce-fewer more fewer (jump to) h k = tt

  CasesEvaluatedOnce-fewer : (more fewer : List ℕ) (cases : Cases) → Includes more fewer → CasesEvaluatedOnce more cases → CasesEvaluatedOnce fewer cases
  CasesEvaluatedOnce-fewer more fewer no_cases h k = tt
  CasesEvaluatedOnce-fewer more fewer (case value body falls_through others) h k =
      (EvaluatedOnce-fewer more fewer body h k.0, CasesEvaluatedOnce-fewer more fewer others h k.1)

-- ---- what passes where the same expressions are known and in scope

module _ (expressions : Expressions) (known known' scope scope' : List ℕ) (same : AreSame known known') (same_scope : AreSame scope scope') where
  pub BlockPasses-same : (block : Tree) → BlockPasses expressions known scope block → BlockPasses expressions known' scope' block
  BlockPasses-same block h = (UsesKnown-more expressions known known' block same.back h.0, EvaluatedOnce-fewer scope scope' block same_scope.there h.1)

  pub NodePasses-same : (node : Node) → NodePasses expressions known scope node → NodePasses expressions known' scope' node
  NodePasses-same node h = (NodeUsesKnown-more expressions known known' node same.back h.0, NodeEvaluatedOnce-fewer scope scope' node same_scope.there h.1)
