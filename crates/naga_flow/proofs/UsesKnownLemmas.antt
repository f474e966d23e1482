-- What passes when some expressions are known passes when more are.
use Rattle.std.proofs.Common.{ℕ, inl, inr, List, [], ◌∷◌, ◌++◌, option_to_list}
use Rattle.std.proofs.lemmas.List.Elements.{All-weaker}
use Rattle.naga_ir.specs.Tree.{Tree, empty, push, Node, plain, nested, branch, switch, loop, jump, Jump, break, continue, kill, return, Cases, no_cases, case}
use Rattle.naga_ir.specs.declared.statement.Statement.{Statement}
use Rattle.naga_flow.specs.Results.{emitted_by, used_by}
use Rattle.naga_flow.specs.Uses.{CasesUseKnown, Expressions, IsKnown, JumpUsesKnown, MayUse, MayUseEach, NodeUsesKnown, OperandsAreKnown, PlainUsesKnown, UsesKnown, after_body, certain, values_of}
use Rattle.naga_flow.specs.Tracking.{Includes}
use Rattle.naga_flow.proofs.IncludesLemmas.{Includes-added, Includes-itself, Includes-joined}

module _ (expressions : Expressions) where
  pub IsKnown-more : {known more : List ℕ} → Includes more known → (x : ℕ) → IsKnown expressions known x → IsKnown expressions more x
  IsKnown-more h x (inl ready) = inl ready
  IsKnown-more h x (inr c) = inr (h.each x c)

  pub MayUse-more : {known more : List ℕ} → Includes more known → (x : ℕ) → MayUse expressions known x → MayUse expressions more x
  MayUse-more {known = known} {more = more} h x k = All-weaker (IsKnown expressions known) (IsKnown expressions more) (IsKnown-more h) (expressions.reads x) k

  pub MayUseEach-more : {known more : List ℕ} → Includes more known → (xs : List ℕ) → MayUseEach expressions known xs → MayUseEach expressions more xs
  MayUseEach-more {known = known} {more = more} h xs k = All-weaker (MayUse expressions known) (MayUse expressions more) (MayUse-more h) xs k

  pub OperandsAreKnown-more : (known more : List ℕ) → Includes more known → (xs : List ℕ) → OperandsAreKnown expressions known xs → OperandsAreKnown expressions more xs
  OperandsAreKnown-more known more h [] k = k
  OperandsAreKnown-more known more h (x ∷ xs) k =
      (MayUseEach-more h (expressions.operands x) k.0, OperandsAreKnown-more (x ∷ known) (x ∷ more) (Includes-added x known more h) xs k.1)

  pub PlainUsesKnown-more : {known more : List ℕ} → Includes more known → (what : Statement) → PlainUsesKnown expressions known what → PlainUsesKnown expressions more what
  PlainUsesKnown-more {known = known} {more = more} h what k = record {
    used = MayUseEach-more h (used_by what) k.used;
    operands = OperandsAreKnown-more known more h (emitted_by what) k.operands;
    evaluated = k.evaluated;
  }

JumpUsesKnown-more : (expressions : Expressions) {known more : List ℕ} → Includes more known → (to : Jump) → JumpUsesKnown expressions known to → JumpUsesKnown expressions more to
JumpUsesKnown-more expressions h break k = tt
JumpUsesKnown-more expressions h continue k = tt
JumpUsesKnown-more expressions h kill k = tt
JumpUsesKnown-more expressions h (return value) k = MayUseEach-more expressions h (option_to_list value) k

mutual
  pub UsesKnown-more : (expressions : Expressions) (known more : List ℕ) (block : Tree) → Includes more known → UsesKnown expressions known block → UsesKnown expressions more block
  UsesKnown-more expressions known more empty h k = tt
  UsesKnown-more expressions known more (push front last span) h k = (
    UsesKnown-more expressions known more front h k.0,
    NodeUsesKnown-more expressions (values_of front ++ known) (values_of front ++ more) last (Includes-joined (values_of front) (values_of front) known more Includes-itself h) k.1,
  )

  pub NodeUsesKnown-more : (expressions : Expressions) (known more : List ℕ) (node : Node) → Includes more known → NodeUsesKnown expressions known node → NodeUsesKnown expressions more node
  NodeUsesKnown-more expressions known more (plain what) h k = PlainUsesKnown-more expressions h what k
  NodeUsesKnown-more expressions known more (nested inner) h k = UsesKnown-more expressions known more inner h k
  NodeUsesKnown-more expressions known more (branch condition accept reject) h k =
      (MayUse-more expressions h condition k.0, UsesKnown-more expressions known more accept h k.1, UsesKnown-more expressions known more reject h k.2)
  NodeUsesKnown-more expressions known more (switch selector cases) h k = (MayUse-more expressions h selector k.0, CasesUseKnown-more expressions known more cases h k.1)
  NodeUsesKnown-more expressions known more (loop body continuing break_if) h k =
      let joined = Includes-joined (values_of (certain body)) (values_of (certain body)) known more Includes-itself h in
      let joined_too = Includes-joined (values_of (certain continuing)) (values_of (certain continuing)) (values_of (certain body) ++ known) (values_of (certain body) ++ more) Includes-itself joined in (
        UsesKnown-more expressions known more body h k.0,
        UsesKnown-more (after_body body expressions) (values_of (certain body) ++ known) (values_of (certain body) ++ more) continuing joined k.1,
        MayUseEach-more (after_body body expressions) joined_too (option_to_list break_if) k.2,
      )
  NodeUsesKnown-more expressions known more (jump to) h k = JumpUsesKnown-more expressions h to k

  CasesUseKnown-more : (expressions : Expressions) (known more : List ℕ) (cases : Cases) → Includes more known → CasesUseKnown expressions known cases → CasesUseKnown expressions more cases
  CasesUseKnown-more expressions known more no_cases h k = tt
  CasesUseKnown-more expressions known more (case value body falls_through others) h k = (UsesKnown-more expressions known more body h k.0, CasesUseKnown-more expressions known more others h k.1)
