-- A body that is closed and passes, in a function that has a result, got no return.
use Rattle.std.proofs.Common.{◌≡◌, ◌∙◌, ℕ, Bool, true, false, [], Option, Some, None, refl, ap}
use Rattle.std.specs.Prelude.{All}
use Rattle.std.proofs.lemmas.List.Elements.{All-head}
use Rattle.naga_arena.specs.declared.span.Span.{Span}
use Rattle.naga_arena.specs.Span.{undefined}
use Rattle.naga_ir.specs.Tree.{Tree, empty, push, Node, plain, nested, branch, switch, loop, jump, return, Cases, no_cases, case}
use Rattle.naga_proc.specs.Closing.{closed, closed_cases, closed_inside, follows, returned_if}
use Rattle.naga_proc.specs.declared.terminator.rule.Rule.{Rule}
use Rattle.naga_flow.proofs.AllLemmas.{All-both}
use Rattle.naga_typifier.specs.Context.{Context}
use Rattle.naga_typifier.specs.declared.resolution.TypeResolution.{TypeResolution}
use Rattle.naga_typing.specs.Requirements.{Fits, Signature}
use Rattle.naga_typing.specs.Statements.{BodyIsTyped, EntryFits, statements, statements_inside, statements_of_cases}
use Rattle.naga_typing.specs.declared.requirement.Requirement.{Requirement}
use Rattle.naga_typing.specs.declared.requirement.Requirement.TheVariants as requirement
use Rattle.naga_typing.proofs.StatementsLemmas.{each-here, each-inside}

module _ (fits : Option Requirement → Type 0) (refused : ¬ fits (Some requirement.NoResult)) where
  abbrev P : Node × Span → Type 0
  P = EntryFits fits

  abbrev Each : Tree → Type 0
  Each tree = All P (statements tree)

  returned-same : (gets : Bool) (block : Tree) → Each (returned_if gets block) → (returned_if gets block ≡ block) × Each block
  returned-same true block h =
      absurd (refused (All-head fits (Some requirement.NoResult) [] (each-here P block (jump (return None)) undefined h)))
  returned-same false block h = (refl, h)

  mutual
    pub closed-same : (rule : Rule) (tree : Tree) → Each (closed rule tree) → closed rule tree ≡ tree
    closed-same rule empty h = (returned-same true empty h).0
    closed-same rule (push front last span) h =
        let rest = returned-same (follows rule last) (push front (closed_inside rule last) span) h in
        rest.0 ∙ ap (λ node. push front node span) (inside-same rule last (each-inside P front (closed_inside rule last) span rest.1))

    inside-same : (rule : Rule) (at : Node) → All P (statements_inside (closed_inside rule at)) → closed_inside rule at ≡ at
    inside-same rule (plain what) h = refl
    inside-same rule (nested inner) h = ap nested (closed-same rule inner h)
    inside-same rule (branch condition accept reject) h =
        let parts = All-both P (statements (closed rule accept)) (statements (closed rule reject)) h in
        let first : closed rule accept ≡ accept = closed-same rule accept parts.0 in
        let second : closed rule reject ≡ reject = closed-same rule reject parts.1 in
        λ i. branch condition (first i) (second i)
    inside-same rule (switch selector cases) h = ap (switch selector) (cases-same rule cases h)
    inside-same rule (loop body continuing break_if) h = refl
    inside-same rule (jump to) h = refl

    cases-same : (rule : Rule) (cases : Cases) → All P (statements_of_cases (closed_cases rule cases)) → closed_cases rule cases ≡ cases
    cases-same rule no_cases h = refl
    cases-same rule (case value body true others) h =
        let parts = All-both P (statements body) (statements_of_cases (closed_cases rule others)) h in
        ap (λ rest. case value body true rest) (cases-same rule others parts.1)
    cases-same rule (case value body false others) h =
        let parts = All-both P (statements (closed rule body)) (statements_of_cases (closed_cases rule others)) h in
        let first : closed rule body ≡ body = closed-same rule body parts.0 in
        let second : closed_cases rule others ≡ others = cases-same rule others parts.1 in
        λ i. case value (first i) false (second i)

module _ (ctx : Context) (known : ℕ → Option TypeResolution) (signature : Signature) where
  pub BodyIsTyped-unchanged : ¬ (signature.result ≡ None) → (rule : Rule) (tree : Tree) → BodyIsTyped ctx known signature (closed rule tree) → closed rule tree ≡ tree
  BodyIsTyped-unchanged returns rule tree typed = closed-same (Fits ctx known signature) returns rule tree typed
