-- What culling and closing keep of expressions that are evaluated once in their scope.
use Rattle.std.proofs.Common.{sym, subst, ℕ, Bool, true, false, List, ◌++◌}
use Rattle.naga_ir.specs.Tree.{Tree, empty, push, Node, plain, nested, branch, switch, loop, jump, Cases, no_cases, case}
use Rattle.naga_flow.specs.Scopes.{CasesEvaluatedOnce, EvaluatedOnce, NodeEvaluatedOnce}
use Rattle.naga_flow.specs.Tracking.{Includes}
use Rattle.naga_flow.specs.Uses.{values_of, values_of_node}
use Rattle.naga_flow.proofs.IncludesLemmas.{Includes-itself, Includes-joined, Includes-left}
use Rattle.naga_flow.proofs.ScopesLemmas.{EvaluatedOnce-fewer}
use Rattle.naga_compact.specs.Culling.{culled, culled_cases, culled_node}
use Rattle.naga_compact.proofs.CulledLemmas.{push_reached-cases}
use Rattle.naga_proc.specs.Closing.{closed, closed_cases, closed_inside, follows, returned_if}
use Rattle.naga_proc.specs.declared.terminator.rule.Rule.{Rule}
use Rattle.naga_meaning.proofs.Uses.UsesKnownLemmas.{culled-values, culled_node-values}

-- what the culled block evaluates, the block evaluates
culled-fewer : (block : Tree) → Includes (values_of block) (values_of (culled block))
culled-fewer empty = Includes-itself
culled-fewer (push front last span) =
    let before : Includes (values_of front) (values_of (culled front)) = culled-fewer front in
    push_reached-cases (λ b. Includes (values_of front ++ values_of_node last) (values_of b)) (culled front) (culled_node last) span
    (λ q. Includes-left (values_of front) (values_of_node last) before)
    (λ q. subst (λ xs. Includes (values_of front ++ values_of_node last) (values_of (culled front) ++ xs)) (sym (culled_node-values last))
    (Includes-joined (values_of (culled front)) (values_of front) (values_of_node last) (values_of_node last) before Includes-itself))

mutual
  pub culled-once : (scope : List ℕ) (block : Tree) → EvaluatedOnce scope block → EvaluatedOnce scope (culled block)
  culled-once scope empty h = h
  culled-once scope (push front last span) h =
      let before : EvaluatedOnce scope (culled front) = culled-once scope front h.0 in
      let inside : NodeEvaluatedOnce (values_of front ++ scope) (culled_node last) = culled_node-once (values_of front ++ scope) last h.1 in
      push_reached-cases (EvaluatedOnce scope) (culled front) (culled_node last) span (λ q. before)
      (λ q. (before, subst (λ xs. NodeEvaluatedOnce (xs ++ scope) (culled_node last)) (sym (culled-values front q)) inside))

  culled_node-once : (scope : List ℕ) (node : Node) → NodeEvaluatedOnce scope node → NodeEvaluatedOnce scope (culled_node node)
  culled_node-once scope (plain what) h = h
  culled_node-once scope (nested inner) h = culled-once scope inner h
  culled_node-once scope (branch condition accept reject) h = (culled-once scope accept h.0, culled-once scope reject h.1)
  culled_node-once scope (switch selector cases) h = culled_cases-once scope cases h
  culled_node-once scope (loop body continuing break_if) h = (
    culled-once scope body h.0,
    EvaluatedOnce-fewer (values_of body ++ scope) (values_of (culled body) ++ scope) (culled continuing)
        (Includes-joined (values_of (culled body)) (values_of body) scope scope (culled-fewer body) Includes-itself) (culled-once (values_of body ++ scope) continuing h.1),
  )
  culled_node-once scope (jump to) h = h

  culled_cases-once : (scope : List ℕ) (cases : Cases) → CasesEvaluatedOnce scope cases → CasesEvaluatedOnce scope (culled_cases cases)
  culled_cases-once scope no_cases h = h
  culled_cases-once scope (case value body falls_through others) h = (culled-once scope body h.0, culled_cases-once scope others h.1)

-- ---- closing

returned_if-once : (scope : List ℕ) (gets : Bool) (block : Tree) → EvaluatedOnce scope block → EvaluatedOnce scope (returned_if gets block)
returned_if-once scope true block h = (h, tt)
returned_if-once scope false block h = h

mutual
  pub closed-once : (rule : Rule) (scope : List ℕ) (block : Tree) → EvaluatedOnce scope block → EvaluatedOnce scope (closed rule block)
  closed-once rule scope empty h = (tt, tt)
  closed-once rule scope (push front last span) h =
      returned_if-once scope (follows rule last) (push front (closed_inside rule last) span) (h.0, closed_inside-once rule (values_of front ++ scope) last h.1)

  closed_inside-once : (rule : Rule) (scope : List ℕ) (node : Node) → NodeEvaluatedOnce scope node → NodeEvaluatedOnce scope (closed_inside rule node)
  closed_inside-once rule scope (plain what) h = h
  closed_inside-once rule scope (nested inner) h = closed-once rule scope inner h
  closed_inside-once rule scope (branch condition accept reject) h = (closed-once rule scope accept h.0, closed-once rule scope reject h.1)
  closed_inside-once rule scope (switch selector cases) h = closed_cases-once rule scope cases h
  closed_inside-once rule scope (loop body continuing break_if) h = h
  closed_inside-once rule scope (jump to) h = h

  closed_cases-once : (rule : Rule) (scope : List ℕ) (cases : Cases) → CasesEvaluatedOnce scope cases → CasesEvaluatedOnce scope (closed_cases rule cases)
  closed_cases-once rule scope no_cases h = h
  closed_cases-once rule scope (case value body true others) h = (h.0, closed_cases-once rule scope others h.1)
  closed_cases-once rule scope (case value body false others) h = (closed-once rule scope body h.0, closed_cases-once rule scope others h.1)
