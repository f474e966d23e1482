-- What evaluates nothing again in its scope evaluates nothing that is known.
use Rattle.std.proofs.Common.{ℕ, List, [], ◌∷◌, ◌++◌, Option, Some, None}
use Rattle.std.specs.Prelude.{⊤}
use Rattle.naga_ir.specs.Tree.{Tree, empty, push, Node, plain, nested, branch, switch, loop, jump, break, continue, kill, return, Cases, no_cases, case}
use Rattle.naga_ir.specs.declared.statement.Statement.{Statement}
use Rattle.naga_flow.specs.Results.{evaluated_by}
use Rattle.naga_flow.specs.Tracking.{Includes}
use Rattle.naga_flow.specs.Uses.{certain, values_of}
use Rattle.naga_flow.proofs.CertainLemmas.{certain-Includes}
use Rattle.naga_flow.proofs.IncludesLemmas.{Includes-added, Includes-itself, Includes-joined}
use Rattle.naga_meaning.specs.InScope.{EvaluatesNew, InScope, NodeInScope, CasesInScope}
use Rattle.naga_meaning.specs.Machine.{IfAny}
use Rattle.naga_flow.specs.Scopes.{AreNew, CasesEvaluatedOnce, EvaluatedOnce, NodeEvaluatedOnce}

new-fewer : (scope known : List ℕ) → Includes scope known → (xs : List ℕ) → AreNew scope xs → AreNew known xs
new-fewer scope known h [] new = tt
new-fewer scope known h (x ∷ xs) new = (λ c. new.0 (h.each x c), new-fewer (x ∷ scope) (x ∷ known) (Includes-added x known scope h) xs new.1)

abbrev News : List ℕ → Statement → Type 0
News known what = AreNew known (evaluated_by what)

abbrev Any : List ℕ → ℕ → Type 0
Any known handle = ⊤

any-if : (known : List ℕ) (value : Option ℕ) → IfAny (Any known) value
any-if known None = tt
any-if known (Some x) = tt

mutual
  once-new : (scope known : List ℕ) (block : Tree) → Includes scope known → EvaluatedOnce scope block → InScope News Any known block
  once-new scope known empty h once = tt
  once-new scope known (push front last span) h once = (
    once-new scope known front h once.0,
    node-new (values_of front ++ scope) (values_of front ++ known) last (Includes-joined (values_of front) (values_of front) known scope Includes-itself h) once.1,
  )

  node-new : (scope known : List ℕ) (node : Node) → Includes scope known → NodeEvaluatedOnce scope node → NodeInScope News Any known node
  node-new scope known (plain what) h once = new-fewer scope known h (evaluated_by what) once
  node-new scope known (nested inner) h once = once-new scope known inner h once
  node-new scope known (branch condition accept reject) h once = (tt, once-new scope known accept h once.0, once-new scope known reject h once.1)
  node-new scope known (switch selector cases) h once = (tt, cases-new scope known cases h once)
  node-new scope known (loop body continuing break_if) h once = (
    once-new scope known body h once.0,
    λ reached. (
      once-new (values_of body ++ scope) (values_of (certain body) ++ known) continuing (Includes-joined (values_of (certain body)) (values_of body) known scope (certain-Includes body) h) once.1,
      any-if (values_of (certain continuing) ++ (values_of (certain body) ++ known)) break_if,
    ),
  )
  node-new scope known (jump break) h once = tt
  node-new scope known (jump continue) h once = tt
  node-new scope known (jump kill) h once = tt
  node-new scope known (jump (return value)) h once = any-if known value

  cases-new : (scope known : List ℕ) (cases : Cases) → Includes scope known → CasesEvaluatedOnce scope cases → CasesInScope News Any known cases
  cases-new scope known no_cases h once = tt
  cases-new scope known (case value body falls_through others) h once = (once-new scope known body h once.0, cases-new scope known others h once.1)

pub EvaluatedOnce-new : (block : Tree) → EvaluatedOnce [] block → EvaluatesNew block
EvaluatedOnce-new block once = once-new [] [] block Includes-itself once
